use Rattle.engine.proofs.Ordered.{kept}
use Rattle.store.proofs.store.Store.begin.Goals as goal

pub invariant_of-self : goal.invariant_of-self
invariant_of-self g c = kept c.begin.ensures c.self.invariant

pub invariant_of-self-2 : goal.invariant_of-self-2
invariant_of-self-2 g c = kept c.begin.ensures c.self.invariant
