use Rattle.ring.specs.Sources.{word_of}
use Rattle.ring.specs.Walks.{Lists}
use Rattle.desk.proofs.Lent.{of_equals}
use Rattle.desk.proofs.ring_desk.RingDesk.transactions.Goals as goal

pub returns : goal.returns
returns c = of_equals (λ ws r. Lists (word_of ws) r.places 4 r.head r.tail c.transactions.result) c.as_slice.ensures.value c.ring.ensures c.transactions.ensures
