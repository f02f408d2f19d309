use Rattle.std.proofs.Common.{◌≡◌, ℕ, ◌/◌, false, cond, get_or, take}
use Rattle.simulated.specs.Lists.{member}
use Rattle.disks.proofs.sectors.clear_marks.Given as goal

abbrev pub invariant-loop-block : goal.invariant-loop-block
invariant-loop-block l = (s : ℕ) → get_or l.waiting s false ≡ cond (member (s / 8) (take l.block-index l.queue)) false (get_or l.initial.waiting s false)
