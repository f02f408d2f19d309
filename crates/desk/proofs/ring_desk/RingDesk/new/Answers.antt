use Rattle.std.proofs.Common.{ℕ, List, set, ap}
use Rattle.desk.proofs.ring_desk.RingDesk.new.Goals as goal

pub returns : goal.returns
returns c = (ap (λ (xs : List ℕ). set (set xs 8 30) 16 30) (c.in_ok-image.ensures.items_if_clones_equal (λ y e. e)), c.in_ok-waiting.ensures.items)
