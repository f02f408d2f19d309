use Rattle.std.proofs.Common.{◌≡◌}
use Rattle.desk.proofs.ring_desk.RingDesk.role.Given as goal

abbrev pub invariant-loop-step : goal.invariant-loop-step
invariant-loop-step l = l.walk.ring.places ≡ 32

abbrev pub decreases-loop-step : goal.decreases-loop-step
decreases-loop-step l = l.walk.left
