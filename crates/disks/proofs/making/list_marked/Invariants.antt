use Rattle.std.proofs.Common.{◌≡◌, ℕ, ◌/◌, ◌<◌, true, false, get_or}
use Rattle.simulated.specs.Lists.{member}
use Rattle.simulated.specs.Listing.{lines_of}
use Rattle.disks.proofs.making.list_marked.Given as goal

abbrev pub invariant-loop-block : goal.invariant-loop-block
invariant-loop-block l =
    (l.pending.size ≡ l.initial.pending.size)
    × ((s : ℕ) → s / 8 < l.block → get_or l.waiting s false ≡ true → member (s / 8) (lines_of l.pending) ≡ true)
