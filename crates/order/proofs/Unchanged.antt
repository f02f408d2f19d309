-- A refused call changes nothing that can be seen, and a restarted store is in order.
use Rattle.std.proofs.Common.{◌≡◌, ℕ, Bool, true, false, cond, ltb, ◌⊎◌, List, [], Some, None, Option, sym, refl, ap, subst, inl, inr, arith}
use Rattle.refusal.specs.declared.reason.Refusal.{Refusal}
use Rattle.device.specs.Pieces.{present_value}
use Rattle.device.specs.Words.{words_of}
use Rattle.device.specs.Sectors.{sectors_of}
use Rattle.crash.specs.Pair.{Pair, Act, PerformedPair, settling_both}
use Rattle.crash.proofs.PairPhases.{any_devices_settle}
use Rattle.ringlaws.specs.Layout.{records_of}
use Rattle.calls.specs.declared.state.State.{State}
use Rattle.calls.specs.declared.call.Call.{Call}
use Rattle.calls.specs.declared.call.Call.TheVariants.{Format, Mount, Begin, Set, Clear, Read, Commit, Abandon, Checkpoint, Close}
use Rattle.calls.specs.declared.answer.Answer.{Answer}
use Rattle.calls.specs.declared.answer.Answer.TheVariants.{Refused, Done, Used, Blocks}
use Rattle.calls.specs.Table.{zero_unit}
use Rattle.calls.specs.Judge.{judge}
use Rattle.calls.specs.Plans.{Machine, Kind, Plan, places_of, blocks_of, words, fit_sizes, mount_refusal, mount_by, set_refusal, set_by, is_full, admitted, plan_by}
use Rattle.calls.specs.Steps.{was_dark, went, went_dark}
use Rattle.order.specs.Order.{InOrder, EndsThere, SameContents, RefusalsChangeNothing, RestartsGiveOrder}
use Rattle.order.proofs.Performed.{performed_none}
use Rattle.order.proofs.Settings.{no_settings}

module _ {R : Type 0} (kind : Kind R) (m : Machine) (e : Refusal) where
  -- the acts of a plan that refuses: none, or those of settling
  abbrev Quiet : Plan R → Type 0
  Quiet p = p.answer ≡ Refused e → (p.acts ≡ []) ⊎ (p.acts ≡ settling_both m.devices.nvm.size)

  by_test : (b : Bool) (p q : Plan R) → Quiet p → Quiet q → Quiet (cond b p q)
  by_test true p q f g = f
  by_test false p q f g = g

  no_acts : (a : Answer R) (s : State) (l : _) → Quiet (record { acts = []; answer = a; state = s; list = l })
  no_acts a s l h = inl refl

  done_is_none : ◌≡◌ {A = Answer R} Done (Refused e) → ⊥
  done_is_none h = let z : ◌≡◌ {A = ℕ} 0 1 = cc in omega arith

  used_is_none : (n : ℕ) → ◌≡◌ {A = Answer R} (Used n) (Refused e) → ⊥
  used_is_none n h = let z : ◌≡◌ {A = ℕ} 0 1 = cc in omega arith

  blocks_is_none : (n : ℕ) → ◌≡◌ {A = Answer R} (Blocks n) (Refused e) → ⊥
  blocks_is_none n h = let z : ◌≡◌ {A = ℕ} 0 1 = cc in omega arith

  mounts : (o : Option Refusal) → Quiet (mount_by kind m o)
  mounts (Some x) h = inr refl
  mounts None h = absurd (blocks_is_none _ h)

  sets : (o : Option Refusal) (r : ℕ) (u : List ℕ) → Quiet (set_by kind m o r u)
  sets (Some x) r u h = inl refl
  sets None r u h = inl refl

  admits : (call : Call R) → Quiet (admitted kind m call)
  admits Format = by_test (fit_sizes m.devices.nvm.size (blocks_of m)) _ _ (λ h. absurd (done_is_none h)) (λ h. inl refl)
  admits Mount = by_test (fit_sizes m.devices.nvm.size (blocks_of m)) _ _ (mounts (mount_refusal (places_of m) (blocks_of m) (words m))) (λ h. inl refl)
  admits Begin = λ h. inl refl
  admits (Set r x) = sets (set_refusal (blocks_of m) m.list r) r (kind.unit x)
  admits (Clear r) = sets (set_refusal (blocks_of m) m.list r) r zero_unit
  admits (Read r) = by_test (ltb r (records_of (blocks_of m))) _ _ (λ h. inl refl) (λ h. inl refl)
  admits Commit = by_test (is_full (places_of m) (words m) m.list) _ _ (λ h. inl refl) (λ h. absurd (used_is_none _ h))
  admits Abandon = λ h. inl refl
  admits Checkpoint = λ h. absurd (blocks_is_none _ h)
  admits Close = λ h. absurd (done_is_none h)

  plans : (o : Option Refusal) (call : Call R) → Quiet (plan_by kind m o call)
  plans (Some x) call = λ h. inl refl
  plans None call = admits call

same_devices : (m n : Machine) → n.devices ≡ m.devices → SameContents m n
same_devices m n e = record { words = λ w. ap (λ (d : Pair). words_of d.nvm w) e; sectors = λ s. ap (λ (d : Pair). sectors_of d.disk s) e }

pub refusals_change_nothing : {R : Type 0} (kind : Kind R) → RefusalsChangeNothing kind
refusals_change_nothing kind m n call e ends lit (was_dark w) = absurd (lit (let h = w.says in cc))
refusals_change_nothing kind m n call e ends lit (went_dark w) = absurd (lit (let h = w.says in cc))
refusals_change_nothing kind m n call e ends lit (went w) =
    elim (plans kind m e (judge m.state call) call (sym w.says)) [
      | inl none ↦ same_devices m n (performed_none (subst (λ (acts : List Act). PerformedPair m.devices acts n.devices) none w.acts))
      | inr settles ↦
          let rests = (any_devices_settle m.devices ends.nvm).performed n.devices (subst (λ (acts : List Act). PerformedPair m.devices acts n.devices) settles w.acts) in
          record { words = λ x. ap present_value (rests.nvm x); sectors = λ s. ap present_value (rests.disk s) }
    ]

pub restarts_give_order : RestartsGiveOrder
restarts_give_order m n r = record {
  settings = subst (λ l. Rattle.order.specs.Order.FairSettings (blocks_of n) l) (sym r.list) (no_settings (blocks_of n));
  mounted = λ lit mounted. absurd (mounted r.state);
}
