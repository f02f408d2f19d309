-- Steps of calls that make no device act. Assumes nothing.
use Rattle.std.proofs.Common.{◌≡◌, ℕ, ◌*◌, ◌≤◌, Bool, true, false, List, [], IsErrAnd, Some, None, Ok, Err, Option, Result, sym, refl, ap, ◌∙◌, subst, arith}
use Rattle.refusal.specs.declared.reason.Refusal.{Refusal}
use Rattle.refusal.specs.declared.reason.Refusal.TheVariants.{Dark}
use Rattle.device.specs.Pieces.{is_unsettled}
use Rattle.device.specs.Words.{NvmMeaning}
use Rattle.device.specs.Sectors.{DiskMeaning}
use Rattle.crash.specs.Pair.{is_dark}
use Rattle.crash.specs.Runs.{done}
use Rattle.ringlaws.specs.TxnInfo.{Transaction}
use Rattle.calls.specs.declared.state.State.{State}
use Rattle.calls.specs.declared.state.State.TheVariants.{Unmounted, Idle, Open}
use Rattle.calls.specs.declared.call.Call.{Call}
use Rattle.calls.specs.declared.call.Call.TheVariants.{Format, Mount, Begin, Set, Clear, Read, Commit, Abandon, Checkpoint, Close}
use Rattle.calls.specs.declared.answer.Answer.{Answer}
use Rattle.calls.specs.declared.answer.Answer.TheVariants.{Refused, Done}
use Rattle.calls.specs.Table.{zero_unit}
use Rattle.calls.specs.Judge.{judge}
use Rattle.calls.specs.Plans.{Machine, Kind, blocks_of, admitted, plan_by, set_by, set_plan}
use Rattle.calls.specs.Steps.{Went, Step, was_dark, went}
use Rattle.order.specs.Order.{FairSettings, InOrder, EndsThere, WritesUnits}
use Rattle.order.proofs.Settings.{no_settings}
use Rattle.order.proofs.Kept.{calls_keep_order}
use Rattle.settings.specs.Puts.{Puts}
use Rattle.calling.specs.Seen.{done_answer}
use Rattle.engine.specs.declared.engine.Engine.{Engine}
use Rattle.engine.specs.Called.{admission, Called}
use Rattle.engine.specs.Machine.{machine}

-- a call without its record
abbrev pub plain : {R : Type 0} → Call R → Call (Unit {0})
plain Format = Format
plain Mount = Mount
plain Begin = Begin
plain (Set r x) = Set r tt
plain (Clear r) = Clear r
plain (Read r) = Read r
plain Commit = Commit
plain Abandon = Abandon
plain Checkpoint = Checkpoint
plain Close = Close

-- what is judged does not depend on the record
pub judged_plain : {R : Type 0} (s : State) (call : Call R) → judge s (plain call) ≡ judge s call
judged_plain Unmounted Format = refl
judged_plain Unmounted Mount = refl
judged_plain Unmounted Begin = refl
judged_plain Unmounted (Set r x) = refl
judged_plain Unmounted (Clear r) = refl
judged_plain Unmounted (Read r) = refl
judged_plain Unmounted Commit = refl
judged_plain Unmounted Abandon = refl
judged_plain Unmounted Checkpoint = refl
judged_plain Unmounted Close = refl
judged_plain Idle Format = refl
judged_plain Idle Mount = refl
judged_plain Idle Begin = refl
judged_plain Idle (Set r x) = refl
judged_plain Idle (Clear r) = refl
judged_plain Idle (Read r) = refl
judged_plain Idle Commit = refl
judged_plain Idle Abandon = refl
judged_plain Idle Checkpoint = refl
judged_plain Idle Close = refl
judged_plain Open Format = refl
judged_plain Open Mount = refl
judged_plain Open Begin = refl
judged_plain Open (Set r x) = refl
judged_plain Open (Clear r) = refl
judged_plain Open (Read r) = refl
judged_plain Open Commit = refl
judged_plain Open Abandon = refl
judged_plain Open Checkpoint = refl
judged_plain Open Close = refl

-- the devices of an engine have nothing to settle beyond their sizes
pub ends : {N D K R : Type 0} (nvm : N → NvmMeaning) (disk : D → DiskMeaning) (e : Engine N D K R)
    → ((s : N) (w : ℕ) → 32 * (nvm s).size ≤ w → is_unsettled ((nvm s).piece w) ≡ false)
    → ((s : D) (i : ℕ) → 8 * (disk s).size ≤ i → is_unsettled ((disk s).piece i) ≡ false) → EndsThere (machine nvm disk e)
ends nvm disk e n d = record { nvm = n e.nvm; disk = d e.disk }

-- a call that was let through
pub passed : {d : Bool} {j : Option Refusal} → Ok tt ≡ admission d j → (d ≡ false) × (j ≡ None)
passed {d = true} h = let z : ◌≡◌ {A = ℕ} 0 1 = cc in absurd (omega arith)
passed {d = false} {j = None} h = (refl, refl)
passed {d = false} {j = Some e} h = let z : ◌≡◌ {A = ℕ} 0 1 = cc in absurd (omega arith)

-- a refusal that is handed on is the same answer, however the call's other answers are told
pub told : {R V : Type 0} {kind : Kind R} {m n : Machine} {call : Call R} (answer : Result V Refusal → Answer R) → ((x : Refusal) → answer (Err x) ≡ Refused x)
    → (e : Refusal) (r : Result V Refusal) → IsErrAnd r (λ y. y ≡ e) → Called kind m call (Refused e) n → Called kind m call (answer r) n
told answer is e (Ok v) b c = absurd b
told {kind = kind} {m = m} {n = n} {call = call} answer is e (Err y) b c =
    subst (λ a. Called kind m call a n) (sym (is y)) (subst (λ x. Called kind m call (Refused x) n) (sym b) c)

pub carried : {R V : Type 0} {kind : Kind R} {m n : Machine} {call : Call R} {e : Refusal} (r : Result V Refusal) → IsErrAnd r (λ y. y ≡ e)
    → Called kind m call (Refused e) n → Called kind m call (done_answer r) n
carried (Ok v) b c = absurd b
carried {kind = kind} {m = m} {n = n} {call = call} (Err y) b c = subst (λ x. Called kind m call (Refused x) n) (sym b) c

module _ {R : Type 0} (kind : Kind R) (units : WritesUnits kind) (m : Machine) (ends : EndsThere m) (call : Call R) where
  -- a step leaves a store in order as one
  pub called : (a : Answer R) (n : Machine) → Step kind m call a n → Called kind m call a n
  called a n s = record { step = s; order = λ o. calls_keep_order kind units m n call a o ends s }

  -- the call goes by its plan
  pub goes : Ok tt ≡ admission (is_dark m.devices) (judge m.state (plain call)) → (a : Answer R) (n : Machine)
      → (is_dark m.devices ≡ false → Went (admitted kind m call) m a n) → Called kind m call a n
  goes h a n w =
      let p = passed h in
      called a n (went (subst (λ o. Went (plan_by kind m o call) m a n) (sym p.1 ∙ judged_plain m.state call) (w p.0)))

  -- the call is refused, in the dark or by the state
  stays : (d : Bool) (j : Option Refusal) (e : Refusal) → is_dark m.devices ≡ d → judge m.state call ≡ j → Err e ≡ admission d j → Step kind m call (Refused e) m
  stays true j e dark judged h = let z : e ≡ Dark = cc in was_dark (record { before = dark; says = ap Refused z; same = refl })
  stays false None e dark judged h = let z : ◌≡◌ {A = ℕ} 0 1 = cc in absurd (omega arith)
  stays false (Some f) e dark judged h =
      let z : e ≡ f = cc in
      went (subst (λ o. Went (plan_by kind m o call) m (Refused e) m) (sym judged) (record { before = dark; says = ap Refused z; acts = done; state = refl; list = refl }))

  pub barred : (e : Refusal) → Err e ≡ admission (is_dark m.devices) (judge m.state (plain call)) → Called kind m call (Refused e) m
  barred e h = called (Refused e) m (stays (is_dark m.devices) (judge m.state (plain call)) e refl (sym (judged_plain m.state call)) h)

  pub refused : {V : Type 0} (e : Refusal) → Err e ≡ admission (is_dark m.devices) (judge m.state (plain call))
      → (r : Result V Refusal) → IsErrAnd r (λ y. y ≡ e) → Called kind m call (done_answer r) m
  refused e h r b = carried r b (barred e h)

-- setting a record by its plan
module _ {R : Type 0} (kind : Kind R) (m : Machine) (r : ℕ) (u : List ℕ) (after : Transaction) (lit : is_dark m.devices ≡ false) where
  abbrev set_to : Machine
  set_to = record { devices = m.devices; state = m.state; list = after }

  by_plan : (x : Result (Unit {0}) Refusal) → Puts (blocks_of m) m.list r u x after → Went (set_plan kind m r u) m (done_answer x) set_to
  by_plan (Ok v) h = subst (λ o. Went (set_by kind m o r u) m Done set_to) (sym h.0) (record { before = lit; says = refl; acts = done; state = refl; list = h.1 })
  by_plan (Err e) h = subst (λ o. Went (set_by kind m o r u) m (Refused e) set_to) (sym h.0) (record { before = lit; says = refl; acts = done; state = refl; list = h.1 })

  -- with the blocks that the disk says it has, and the unit that was written
  pub puts : (B : ℕ) (w : List ℕ) (x : Result (Unit {0}) Refusal) → B ≡ blocks_of m → w ≡ u → Puts B m.list r w x after → Went (set_plan kind m r u) m (done_answer x) set_to
  puts B w x size unit h =
      by_plan x (subst (λ v. Puts (blocks_of m) m.list r v x after) unit (subst (λ b. Puts b m.list r w x after) size h))

-- the calls that were let through, by their plans
module _ {R : Type 0} (kind : Kind R) (units : WritesUnits kind) (m : Machine) (ends : EndsThere m) where
  abbrev at : State → Transaction → Machine
  at s t = record { devices = m.devices; state = s; list = t }

  pub begun : Ok tt ≡ admission (is_dark m.devices) (judge {R = Unit {0}} m.state Begin) → Called kind m Begin Done (at Open m.list)
  begun h = goes kind units m ends Begin h _ _ (λ lit. record { before = lit; says = refl; acts = done; state = refl; list = refl })

  pub abandoned : Ok tt ≡ admission (is_dark m.devices) (judge {R = Unit {0}} m.state Abandon) → (after : Transaction) → after ≡ [] → Called kind m Abandon Done (at Idle after)
  abandoned h after none = goes kind units m ends Abandon h _ _ (λ lit. record { before = lit; says = refl; acts = done; state = refl; list = none })

  pub was_set : (r : ℕ) (v : R) → Ok tt ≡ admission (is_dark m.devices) (judge {R = Unit {0}} m.state (Set r tt)) → (B : ℕ) (u : List ℕ) (x : Result (Unit {0}) Refusal) (after : Transaction)
      → B ≡ blocks_of m → u ≡ kind.unit v → Puts B m.list r u x after → Called kind m (Set r v) (done_answer x) (at m.state after)
  was_set r v h B u x after size unit p = goes kind units m ends (Set r v) h _ _ (λ lit. puts kind m r (kind.unit v) after lit B u x size unit p)

  pub was_cleared : (r : ℕ) → Ok tt ≡ admission (is_dark m.devices) (judge {R = Unit {0}} m.state (Clear r)) → (B : ℕ) (x : Result (Unit {0}) Refusal) (after : Transaction)
      → B ≡ blocks_of m → Puts B m.list r zero_unit x after → Called kind m (Clear r) (done_answer x) (at m.state after)
  was_cleared r h B x after size p = goes kind units m ends (Clear r) h _ _ (λ lit. puts kind m r zero_unit after lit B zero_unit x size refl p)

-- a store that was just made is in order
pub fresh : (m : Machine) → m.state ≡ Unmounted → m.list ≡ [] → InOrder m
fresh m s e = record { settings = subst (FairSettings (blocks_of m)) (sym e) (no_settings (blocks_of m)); mounted = λ lit mounted. absurd (mounted s) }
