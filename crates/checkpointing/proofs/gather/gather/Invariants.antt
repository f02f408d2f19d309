use Rattle.std.proofs.Common.{◌≡◌, ◌+◌, ◌<◌, length}
use Rattle.checkpointing.proofs.Rowing.{Gathered}
use Rattle.checkpointing.proofs.gather.gather.Given as goal

abbrev pub invariant-loop-step : goal.invariant-loop-step
invariant-loop-step g l =
    (l.walk.source.now ≡ l.source)
    × (l.walk.ring ≡ l.ring)
    × (l.walk.blocks ≡ l.fn.blocks)
    × (l.end ≡ l.walk.place)
    × (length l.rows + l.walk.left < 255)
    × Gathered (g.S.Source.reads l.walk.source.now) l.walk.ring.places l.walk.blocks l.walk.ring.head l.walk.ring.tail l.rows l.walk.place l.walk.left

abbrev pub decreases-loop-step : goal.decreases-loop-step
decreases-loop-step g l = l.walk.left
