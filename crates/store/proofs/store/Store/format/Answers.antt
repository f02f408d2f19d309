use Rattle.engine.proofs.Ordered.{kept}
use Rattle.store.proofs.store.Store.format.Goals as goal

pub invariant_of-self : goal.invariant_of-self
invariant_of-self g c = kept c.format.ensures c.self.invariant
