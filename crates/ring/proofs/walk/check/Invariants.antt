use Rattle.std.proofs.Common.{◌≡◌}
use Rattle.ring.proofs.walk.check.Given as goal

abbrev pub invariant-loop : goal.invariant-loop
invariant-loop g l = (l.walk.source.now ≡ l.source) × (l.walk.ring ≡ l.fn.ring) × (l.walk.blocks ≡ l.fn.blocks)

abbrev pub decreases-loop : goal.decreases-loop
decreases-loop g l = l.walk.left
