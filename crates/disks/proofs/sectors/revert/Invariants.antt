use Rattle.std.proofs.Common.{◌≡◌, ℕ, ◌/◌, cond, ◌&&◌, get_or, take}
use Rattle.simulated.specs.Lists.{member}
use Rattle.disks.specs.Rows.{goes_back}
use Rattle.disks.proofs.sectors.revert.Given as goal

abbrev pub invariant-loop-block : goal.invariant-loop-block
invariant-loop-block l = (w : ℕ) → get_or l.present w 0
    ≡ cond (member (w / 512) (take l.block-index l.queue) && goes_back l.waiting l.how (w / 64)) (get_or l.settled w 0) (get_or l.initial.present w 0)
