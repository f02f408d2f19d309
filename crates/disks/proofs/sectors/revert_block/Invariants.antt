use Rattle.std.proofs.Common.{◌≡◌, ℕ, ◌*◌, ◌/◌, cond, ◌&&◌, get_or}
use Rattle.simulated.specs.Lists.{inside}
use Rattle.disks.specs.Rows.{goes_back}
use Rattle.disks.proofs.sectors.revert_block.Given as goal

abbrev pub invariant-loop-sector : goal.invariant-loop-sector
invariant-loop-sector l = (w : ℕ) → get_or l.present w 0
    ≡ cond (inside (8 * l.block) l.sector (w / 64) && goes_back l.waiting l.how (w / 64)) (get_or l.settled w 0) (get_or l.initial.present w 0)
