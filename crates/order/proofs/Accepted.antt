-- No act of a call on a store in order is refused but for darkness. Assumes nothing.
use Rattle.std.proofs.Common.{◌≡◌, ℕ, true, false, ltb, List, [], ◌∷◌, ◌++◌, Some, None, Option, sym, refl, subst}
use Rattle.std.proofs.lemmas.Bool.{cond_both}
use Rattle.refusal.specs.declared.reason.Refusal.{Refusal}
use Rattle.refusal.specs.declared.reason.Refusal.TheVariants.{BadSize, NoSuchRecord, RingFull}
use Rattle.crash.specs.Pair.{Pair, is_dark, PairAccepts, settling_both}
use Rattle.ringlaws.specs.Layout.{records_of}
use Rattle.ringlaws.specs.TxnInfo.{Transaction}
use Rattle.calls.specs.declared.call.Call.{Call}
use Rattle.calls.specs.declared.call.Call.TheVariants.{Format, Mount, Begin, Set, Clear, Read, Commit, Abandon, Checkpoint, Close}
use Rattle.calls.specs.Table.{zero_unit}
use Rattle.calls.specs.Acts.{commit_acts, checkpoint_acts}
use Rattle.calls.specs.Judge.{judge}
use Rattle.calls.specs.Plans.{Machine, Kind, Plan, places_of, blocks_of, words, sectors, ring, table_of, refusing, fit_sizes, mount_refusal, set_refusal, is_full, format_plan, mount_by, mount_plan, set_by, set_plan, read_plan, commit_plan, admitted, plan_by}
use Rattle.calllaws.specs.Holds.{Keeps}
use Rattle.calllaws.proofs.Settling.{settling_settles_both, settling_then}
use Rattle.calllaws.proofs.Checkpoints.{checkpoint_stage, checkpoints_keep_the_table}
use Rattle.calllaws.proofs.Commits.{commits_are_atomic}
use Rattle.calllaws.proofs.Formats.{formats_make_an_empty_store}
use Rattle.order.specs.Order.{FairSettings, InOrder, EndsThere, OnlyDarknessStopsCalls}
use Rattle.order.proofs.Own.{Own, own}
use Rattle.order.proofs.Judged.{is_mounted_lem}
use Rattle.order.proofs.Settings.{settings_fair}
use Rattle.order.proofs.Found.{size_is, any_contents}

-- no act, none refused
none_refused : {m : Pair} → PairAccepts m []
none_refused = record { nvm = tt; disk = tt }

module _ {R : Type 0} (kind : Kind R) (m : Machine) where
  -- the acts of this plan are accepted
  abbrev pub Fine : Plan R → Type 0
  Fine plan = PairAccepts m.devices plan.acts

  -- set, clear and read have no acts
  set_fine : (r : ℕ) (u : List ℕ) → Fine (set_plan kind m r u)
  set_fine r u = go (set_refusal (blocks_of m) m.list r)
    where
      go : (x : Option Refusal) → Fine (set_by kind m x r u)
      go (Some e) = none_refused
      go None = none_refused

  read_fine : (r : ℕ) → Fine (read_plan kind m r)
  read_fine r = cond_both (ltb r (records_of (blocks_of m))) _ (refusing m NoSuchRecord) Fine (λ h. none_refused) (λ h. none_refused)

  -- format and mount, on whatever contents
  module _ (ends : EndsThere m) where
    format_fine : Fine (format_plan kind m)
    format_fine =
        cond_both (fit_sizes m.devices.nvm.size (blocks_of m)) _ (refusing m BadSize) Fine
        (λ h. (formats_make_an_empty_store (places_of m) (blocks_of m) m.devices (any_contents m ends h)).0) (λ h. none_refused)

    pub mount_fine : Fine (mount_plan kind m)
    mount_fine =
        cond_both (fit_sizes m.devices.nvm.size (blocks_of m)) _ (refusing m BadSize) Fine (go (mount_refusal (places_of m) (blocks_of m) (words m))) (λ h. none_refused)
      where
        go : (o : Option Refusal) → fit_sizes m.devices.nvm.size (blocks_of m) ≡ true → Fine (mount_by kind m o)
        go None h =
            subst (λ (u : ℕ). PairAccepts m.devices (settling_both u ++ checkpoint_acts (blocks_of m) (words m) (ring m) (sectors m))) (sym (size_is m.devices.nvm.size (blocks_of m) h))
            (settling_then (places_of m) (blocks_of m) (any_contents m ends h) (checkpoint_stage (places_of m) (blocks_of m) (words m) (ring m) (sectors m)))
        go (Some e) h =
            subst (λ (u : ℕ). PairAccepts m.devices (settling_both u)) (sym (size_is m.devices.nvm.size (blocks_of m) h))
            (settling_settles_both (places_of m) (blocks_of m) m.devices (any_contents m ends h)).0

  -- checkpoint and commit, on a store that is mounted
  module _ (keeps : Keeps (places_of m) (blocks_of m) m.devices (ring m) (table_of m)) where
    o : Own m.devices (ring m) (table_of m)
    o = own (places_of m) (blocks_of m) m.devices (ring m) (table_of m) keeps

    checkpoint_fine : PairAccepts m.devices (checkpoint_acts (blocks_of m) (words m) (ring m) (sectors m))
    checkpoint_fine = (checkpoints_keep_the_table (places_of m) (blocks_of m) (words m) (sectors m) (ring m) (table_of m) m.devices o.ready o.holds).accepts

    commit_acts_fine : (t : Transaction) → FairSettings (blocks_of m) t → is_full (places_of m) (words m) t ≡ false → PairAccepts m.devices (commit_acts (places_of m) (words m) t)
    commit_acts_fine [] f h = none_refused
    commit_acts_fine (s ∷ t) f h =
        (commits_are_atomic (places_of m) (blocks_of m) (words m) (sectors m) (ring m) (table_of m) (s ∷ t) m.devices o.ready o.holds (settings_fair (blocks_of m) s t f) h).accepts

    commit_fine : FairSettings (blocks_of m) m.list → Fine (commit_plan kind m)
    commit_fine fair =
        cond_both (is_full (places_of m) (words m) m.list) (refusing m RingFull) _ Fine (λ h. none_refused) (commit_acts_fine m.list fair)

  -- a call that the state lets through
  module _ (order : InOrder m) (ends : EndsThere m) (lit : is_dark m.devices ≡ false) where
    by_call : (call : Call R) → judge m.state call ≡ None → Fine (admitted kind m call)
    by_call Format h = format_fine ends
    by_call Mount h = mount_fine ends
    by_call Begin h = none_refused
    by_call (Set r x) h = set_fine r (kind.unit x)
    by_call (Clear r) h = set_fine r zero_unit
    by_call (Read r) h = read_fine r
    by_call Commit h = commit_fine (order.mounted lit (is_mounted_lem {R = R} m.state Commit refl h)) order.settings
    by_call Abandon h = none_refused
    by_call Checkpoint h = checkpoint_fine (order.mounted lit (is_mounted_lem {R = R} m.state Checkpoint refl h))
    by_call Close h = checkpoint_fine (order.mounted lit (is_mounted_lem {R = R} m.state Close refl h))

    by_state : (call : Call R) (x : Option Refusal) → judge m.state call ≡ x → Fine (plan_by kind m x call)
    by_state call (Some e) h = none_refused
    by_state call None h = by_call call h

pub only_darkness_stops_calls : {R : Type 0} (kind : Kind R) → OnlyDarknessStopsCalls kind
only_darkness_stops_calls kind m call order ends lit = by_state kind m order ends lit call (judge m.state call) refl
