use Rattle.order.proofs.Unchanged.{restarts_give_order}
use Rattle.store.proofs.store.Store.restart.Goals as goal

pub invariant_of-self : goal.invariant_of-self
invariant_of-self g c = ∣ restarts_give_order _ _ c.restart.ensures.restarted ∣₁
