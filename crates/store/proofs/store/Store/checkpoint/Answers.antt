use Rattle.engine.proofs.Ordered.{in_order, kept}
use Rattle.store.proofs.store.Store.checkpoint.Goals as goal

pub invariant_of-self : goal.invariant_of-self
invariant_of-self g c = kept (c.checkpoint.ensures (in_order _ c.self.invariant)) c.self.invariant

pub returns : goal.returns
returns g c = rw (← c.self.view_is) (c.checkpoint.ensures (in_order _ c.self.invariant))
