use Rattle.engine.proofs.Ordered.{kept}
use Rattle.store.proofs.store.Store.abandon.Goals as goal

pub invariant_of-self : goal.invariant_of-self
invariant_of-self g c = kept c.abandon.ensures c.self.invariant
