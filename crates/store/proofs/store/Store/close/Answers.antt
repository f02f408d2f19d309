use Rattle.engine.proofs.Ordered.{in_order, kept}
use Rattle.store.proofs.store.Store.close.Goals as goal

pub invariant_of-self : goal.invariant_of-self
invariant_of-self g c = kept (c.close.ensures (in_order _ c.self.invariant)) c.self.invariant

pub returns : goal.returns
returns g c = rw (← c.self.view_is) (c.close.ensures (in_order _ c.self.invariant))
