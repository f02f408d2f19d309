use Rattle.store.proofs.store.Store.new.Goals as goal

pub invariant_of-result : goal.invariant_of-result
invariant_of-result g c = ∣ c.in_ok-engine.ensures.order ∣₁
