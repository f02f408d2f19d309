-- A call that the state lets through: only format and mount are, where the store is not mounted. Assumes nothing.
use Rattle.std.proofs.Common.{◌≡◌, ℕ, Some, None, sym, ap, ◌∙◌, arith}
use Rattle.refusal.specs.declared.reason.Refusal.TheVariants.{NotMounted}
use Rattle.calls.specs.declared.state.State.{State}
use Rattle.calls.specs.declared.state.State.TheVariants.{Unmounted}
use Rattle.calls.specs.declared.call.Call.{Call}
use Rattle.calls.specs.Judge.{judge}

-- the first premise is refl at each of the other calls
pub is_mounted_lem : {R : Type 0} (s : State) (call : Call R) → judge Unmounted call ≡ Some NotMounted → judge s call ≡ None → s ≡ Unmounted → ⊥
is_mounted_lem s call other passed e =
    let same : None ≡ Some NotMounted = sym passed ∙ ap (λ (x : State). judge x call) e ∙ other in
    let z : ◌≡◌ {A = ℕ} 0 1 = cc in
    omega arith
