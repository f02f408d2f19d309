use Rattle.std.proofs.Common.{◌≡◌, vec_items}
use Rattle.ring.proofs.Listing.{Kept}
use Rattle.ring.proofs.list.transactions.Given as goal

abbrev pub invariant-loop-newest_first : goal.invariant-loop-newest_first
invariant-loop-newest_first g l =
    (l.walk.source.now ≡ l.source)
    × (l.walk.ring ≡ l.ring)
    × (l.walk.blocks ≡ l.fn.blocks)
    × Kept (g.S.Source.reads l.walk.source.now) l.walk.ring.places l.walk.blocks l.walk.ring.head l.walk.ring.tail l.walk.place l.walk.left (vec_items l.newest_first)

abbrev pub decreases-loop-newest_first : goal.decreases-loop-newest_first
decreases-loop-newest_first g l = l.walk.left
