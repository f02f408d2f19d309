use Rattle.ring.specs.Sources.{word_of}
use Rattle.ring.specs.Walks.{Finds}
use Rattle.desk.proofs.Lent.{of_equals}
use Rattle.desk.proofs.ring_desk.RingDesk.find.Goals as goal

pub returns : goal.returns
returns c = of_equals (λ ws r. Finds (word_of ws) r.places r.head r.tail c.args.number c.find.result) c.as_slice.ensures.value c.ring-ring.ensures c.find.ensures
