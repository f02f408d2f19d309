-- Every call leaves a store in order: performed, refused, or cut by power. Assumes nothing.
use Rattle.std.proofs.Common.{◌≡◌, ℕ, true, false, ltb, List, [], ◌∷◌, ◌++◌, length, Some, None, Option, sym, refl, ap, ◌∙◌, subst}
use Rattle.std.proofs.lemmas.Bool.{cond_both, both_ways}
use Rattle.std.proofs.lemmas.List.{length-replicate}
use Rattle.refusal.specs.declared.reason.Refusal.{Refusal}
use Rattle.refusal.specs.declared.reason.Refusal.TheVariants.{BadSize, NoSuchRecord, RingFull, NotMounted}
use Rattle.device.specs.Sectors.{disk_rules}
use Rattle.crash.specs.Pair.{Pair, is_dark, PerformedPair, settling_both}
use Rattle.crash.proofs.Runs.{performed_split}
use Rattle.crash.proofs.Follow.{begun_size}
use Rattle.crash.proofs.Pairs.{cuts_part}
use Rattle.ringlaws.specs.Layout.{records_of}
use Rattle.ringlaws.specs.TxnInfo.{Transaction}
use Rattle.ringlaws.specs.Newest.{lay}
use Rattle.calls.specs.declared.state.State.{State}
use Rattle.calls.specs.declared.state.State.TheVariants.{Unmounted, Idle, Open}
use Rattle.calls.specs.declared.call.Call.{Call}
use Rattle.calls.specs.declared.call.Call.TheVariants.{Format, Mount, Begin, Set, Clear, Read, Commit, Abandon, Checkpoint, Close}
use Rattle.calls.specs.declared.answer.Answer.{Answer}
use Rattle.calls.specs.declared.answer.Answer.TheVariants.{Refused, Done, Blocks}
use Rattle.calls.specs.Table.{zero_unit}
use Rattle.calls.specs.Acts.{commit_acts, checkpoint_acts, named_blocks}
use Rattle.calls.specs.Judge.{judge}
use Rattle.calls.specs.Plans.{Machine, Kind, Plan, places_of, blocks_of, words, sectors, ring, table_of, refusing, fit_sizes, mount_refusal, put, set_refusal, is_full, read_unit, format_plan, mount_by, mount_plan, set_by, set_plan, read_plan, commit_plan, checkpoint_plan, admitted, plan_by, plan_of}
use Rattle.calls.specs.Steps.{was_dark, went, went_dark, Went, WentDark}
use Rattle.calllaws.specs.Holds.{Ready, Keeps}
use Rattle.calllaws.proofs.Stages.{performed_sizes}
use Rattle.calllaws.proofs.Settling.{settling_settles_both}
use Rattle.calllaws.proofs.Checkpoints.{checkpoints_keep_the_table}
use Rattle.calllaws.proofs.Commits.{commits_are_atomic}
use Rattle.order.specs.Order.{FairSettings, InOrder, EndsThere, WritesUnits, CallsKeepOrder}
use Rattle.order.proofs.Own.{Own, own, own_places, own_blocks, own_ring, own_table, keeps_own}
use Rattle.order.proofs.Performed.{performed_none}
use Rattle.order.proofs.Judged.{is_mounted_lem}
use Rattle.order.proofs.Settings.{no_settings, put_fair, settings_fair, set_passes}
use Rattle.order.proofs.Found.{size_is, any_contents, found}

-- a pair that keeps its own ring and table
abbrev Kept : Pair → Type 0
Kept d = Keeps (own_places d) (own_blocks d) d (own_ring d) (own_table d)

module _ {R : Type 0} (kind : Kind R) (m n : Machine) (order : InOrder m) (lit : is_dark m.devices ≡ false) (a : Answer R) where
  -- the store that goes by this plan is in order then
  abbrev Fine : Plan R → Type 0
  Fine plan = Went plan m a n → InOrder n

  settings_then : (l : Transaction) → n.devices.disk.size ≡ m.devices.disk.size → n.list ≡ l → FairSettings (blocks_of m) l → FairSettings (blocks_of n) n.list
  settings_then l size list fair =
      subst (λ (b : ℕ). FairSettings b n.list) (sym size) (subst (FairSettings (blocks_of m)) (sym list) fair)

  -- plans without acts: what is mounted then was mounted before
  quiet : (x : Answer R) (s : State) (l : Transaction) → FairSettings (blocks_of m) l → ((s ≡ Unmounted → ⊥) → m.state ≡ Unmounted → ⊥)
      → Fine (record { acts = []; answer = x; state = s; list = l })
  quiet x s l fair still w =
      let same : n.devices ≡ m.devices = performed_none w.acts in
      record {
        settings = settings_then l (ap (λ (p : Pair). p.disk.size) same) w.list fair;
        mounted = λ _ h. subst Kept (sym same) (order.mounted lit (still (λ e. h (w.state ∙ e))));
      }

  refused : (e : Refusal) → Fine (refusing m e)
  refused e = quiet (Refused e) m.state m.list order.settings (λ h. h)

  -- plans that leave the store unmounted, and plans whose acts make the devices keep a table
  unmounting : (plan : Plan R) → plan.state ≡ Unmounted → FairSettings (blocks_of m) plan.list → Fine plan
  unmounting plan e fair w = record {
    settings = settings_then plan.list (performed_sizes w.acts).blocks w.list fair;
    mounted = λ _ h. absurd (h (w.state ∙ e));
  }

  keeping : (plan : Plan R) → FairSettings (blocks_of m) plan.list → (PerformedPair m.devices plan.acts n.devices → Kept n.devices) → Fine plan
  keeping plan fair kept w = record {
    settings = settings_then plan.list (performed_sizes w.acts).blocks w.list fair;
    mounted = λ _ _. kept w.acts;
  }

  set_fine : (r : ℕ) (u : List ℕ) → length u ≡ 32 → Fine (set_plan kind m r u)
  set_fine r u long = go (set_refusal (blocks_of m) m.list r) refl
    where
      go : (x : Option Refusal) → set_refusal (blocks_of m) m.list r ≡ x → Fine (set_by kind m x r u)
      go (Some e) h = refused e
      go None h =
          let (inside, room) = set_passes (blocks_of m) m.list r h in
          quiet Done m.state (put m.list r u) (put_fair (blocks_of m) m.list r u order.settings inside room long) (λ h. h)

  read_fine : (r : ℕ) → Fine (read_plan kind m r)
  read_fine r =
      cond_both (ltb r (records_of (blocks_of m))) _ (refusing m NoSuchRecord) Fine
      (λ h. quiet (read_unit kind (lay m.list (table_of m) r)) m.state m.list order.settings (λ h. h)) (λ h. refused NoSuchRecord)

  -- format and mount, on whatever contents
  format_fine : Fine (format_plan kind m)
  format_fine =
      cond_both (fit_sizes m.devices.nvm.size (blocks_of m)) _ (refusing m BadSize) Fine (λ h. unmounting _ refl (no_settings (blocks_of m))) (λ h. refused BadSize)

  module _ (ends : EndsThere m) where
    -- settled, the devices are ready at their present contents
    settled_ready : (k : Pair) → fit_sizes m.devices.nvm.size (blocks_of m) ≡ true → PerformedPair m.devices (settling_both m.devices.nvm.size) k
        → Ready (places_of m) (blocks_of m) (words m) (sectors m) k
    settled_ready k fits first =
        let any = any_contents m ends fits in
        let sizes = performed_sizes first in
        record {
          least = any.least;
          most = any.most;
          some = any.some;
          few = any.few;
          units = sizes.units ∙ any.units;
          blocks = sizes.blocks ∙ any.blocks;
          rests = (settling_settles_both (places_of m) (blocks_of m) m.devices any).1 k
              (subst (λ (u : ℕ). PerformedPair m.devices (settling_both u) k) (size_is m.devices.nvm.size (blocks_of m) fits) first);
        }

    mount_keeps : fit_sizes m.devices.nvm.size (blocks_of m) ≡ true → mount_refusal (places_of m) (blocks_of m) (words m) ≡ None
        → PerformedPair m.devices (settling_both m.devices.nvm.size ++ checkpoint_acts (blocks_of m) (words m) (ring m) (sectors m)) n.devices
        → Kept n.devices
    mount_keeps fits sound r =
        let (k, first, second) = performed_split (settling_both m.devices.nvm.size) (checkpoint_acts (blocks_of m) (words m) (ring m) (sectors m)) r in
        keeps_own (places_of m) (blocks_of m) n.devices [] (table_of m)
        ((checkpoints_keep_the_table (places_of m) (blocks_of m) (words m) (sectors m) (ring m) (table_of m) k (settled_ready k fits first)
        (found (places_of m) (blocks_of m) (words m) (sectors m) sound)).whole n.devices second)

    mount_fine : Fine (mount_plan kind m)
    mount_fine =
        cond_both (fit_sizes m.devices.nvm.size (blocks_of m)) _ (refusing m BadSize) Fine (go (mount_refusal (places_of m) (blocks_of m) (words m)) refl) (λ h. refused BadSize)
      where
        go : (x : Option Refusal) → mount_refusal (places_of m) (blocks_of m) (words m) ≡ x → fit_sizes m.devices.nvm.size (blocks_of m) ≡ true → Fine (mount_by kind m x)
        go (Some e) h fits = unmounting (mount_by kind m (Some e)) refl order.settings
        go None h fits = keeping (mount_by kind m None) order.settings (mount_keeps fits h)

  -- checkpoint and commit, on a store that is mounted
  module _ (keeps : Kept m.devices) where
    o : Own m.devices (ring m) (table_of m)
    o = own (places_of m) (blocks_of m) m.devices (ring m) (table_of m) keeps

    checkpoint_fine : (x : Answer R) (s : State) → Fine (checkpoint_plan kind m x s)
    checkpoint_fine x s = keeping (checkpoint_plan kind m x s) order.settings
        (λ r. keeps_own (places_of m) (blocks_of m) n.devices [] (table_of m)
        ((checkpoints_keep_the_table (places_of m) (blocks_of m) (words m) (sectors m) (ring m) (table_of m) m.devices o.ready o.holds).whole n.devices r))

    commit_keeps : (t : Transaction) → FairSettings (blocks_of m) t → is_full (places_of m) (words m) t ≡ false
        → PerformedPair m.devices (commit_acts (places_of m) (words m) t) n.devices → Kept n.devices
    commit_keeps [] f h r = subst Kept (sym (performed_none r)) keeps
    commit_keeps (s ∷ t) f h r =
        keeps_own (places_of m) (blocks_of m) n.devices (ring m ++ (s ∷ t) ∷ []) (lay (s ∷ t) (table_of m))
        ((commits_are_atomic (places_of m) (blocks_of m) (words m) (sectors m) (ring m) (table_of m) (s ∷ t) m.devices o.ready o.holds (settings_fair (blocks_of m) s t f) h).whole n.devices r)

    commit_fine : Fine (commit_plan kind m)
    commit_fine =
        cond_both (is_full (places_of m) (words m) m.list) (refusing m RingFull) _ Fine (λ h. refused RingFull)
        (λ h. keeping _ (no_settings (blocks_of m)) (commit_keeps m.list order.settings h))

  -- a call that the state lets through
  module _ (writes : WritesUnits kind) (ends : EndsThere m) where
    kept_by : (call : Call R) → judge Unmounted call ≡ Some NotMounted → judge m.state call ≡ None → Kept m.devices
    kept_by call other h = order.mounted lit (is_mounted_lem m.state call other h)

    by_call : (call : Call R) → judge m.state call ≡ None → Fine (admitted kind m call)
    by_call Format h = format_fine
    by_call Mount h = mount_fine ends
    by_call Begin h = quiet Done Open m.list order.settings (λ _. is_mounted_lem {R = R} m.state Begin refl h)
    by_call (Set r x) h = set_fine r (kind.unit x) (writes x)
    by_call (Clear r) h = set_fine r zero_unit (length-replicate {A = ℕ} 32 0)
    by_call (Read r) h = read_fine r
    by_call Commit h = commit_fine (kept_by Commit refl h)
    by_call Abandon h = quiet Done Idle [] (no_settings (blocks_of m)) (λ _. is_mounted_lem {R = R} m.state Abandon refl h)
    by_call Checkpoint h = checkpoint_fine (kept_by Checkpoint refl h) (Blocks (named_blocks (blocks_of m) (ring m))) m.state
    by_call Close h = checkpoint_fine (kept_by Close refl h) Done Unmounted

    by_state : (call : Call R) (x : Option Refusal) → judge m.state call ≡ x → Fine (plan_by kind m x call)
    by_state call (Some e) h = refused e
    by_state call None h = by_call call h

-- a call in which a device turns dark: then only the settings matter, which stay
cut_in_order : {R : Type 0} (plan : Plan R) (m n : Machine) (a : Answer R) → InOrder m → WentDark plan m a n → InOrder n
cut_in_order plan m n a order w =
    let (dark, words, sectors) = cuts_part plan.acts m.devices n.devices w.acts in
    record {
      settings = subst (λ (b : ℕ). FairSettings b n.list) (sym (begun_size disk_rules sectors)) (subst (FairSettings (blocks_of m)) (sym w.list) order.settings);
      mounted = λ lit _. absurd (both_ways (is_dark n.devices) lit dark);
    }

pub calls_keep_order : {R : Type 0} (kind : Kind R) → CallsKeepOrder kind
calls_keep_order kind writes m n call a order ends (was_dark w) = subst InOrder (sym w.same) order
calls_keep_order kind writes m n call a order ends (went w) = by_state kind m n order w.before a writes ends call (judge m.state call) refl w
calls_keep_order kind writes m n call a order ends (went_dark w) = cut_in_order (plan_of kind m call) m n a order w
