use Rattle.engine.proofs.Ordered.{kept}
use Rattle.store.proofs.store.Store.set.Goals as goal

pub invariant_of-self : goal.invariant_of-self
invariant_of-self g c = kept c.set.ensures c.self.invariant
