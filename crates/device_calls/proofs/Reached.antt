-- Steps of calls on the devices of a store, from what the calls on the devices promise. Assumes nothing.
use Rattle.std.proofs.Common.{◌≡◌, ℕ, Bool, true, false, cond, ltb, List, [], IsErrAnd, Some, None, Ok, Err, Option, Result, sym, refl, ap, ◌∙◌, subst, arith}
use Rattle.std.proofs.lemmas.Bool.{cond-true, cond-false}
use Rattle.refusal.specs.declared.reason.Refusal.{Refusal}
use Rattle.refusal.specs.declared.reason.Refusal.TheVariants.{Dark, NoSuchRecord}
use Rattle.device.specs.Words.{NvmMeaning}
use Rattle.device.specs.Sectors.{DiskMeaning}
use Rattle.crash.specs.Runs.{done}
use Rattle.crash.specs.Pair.{is_dark}
use Rattle.ringlaws.specs.Layout.{records_of}
use Rattle.ringlaws.specs.TxnInfo.{Transaction, all_zero}
use Rattle.ringlaws.specs.Newest.{lay}
use Rattle.calls.specs.declared.state.State.{State}
use Rattle.calls.specs.declared.state.State.TheVariants.{Unmounted, Idle, Open}
use Rattle.calls.specs.declared.call.Call.{Call}
use Rattle.calls.specs.declared.call.Call.TheVariants.{Format, Mount, Read, Commit, Checkpoint, Close}
use Rattle.calls.specs.declared.answer.Answer.{Answer}
use Rattle.calls.specs.declared.answer.Answer.TheVariants.{Refused, Absent}
use Rattle.calls.specs.Judge.{judge}
use Rattle.calls.specs.Plans.{Machine, Kind, Plan, blocks_of, table_of, read_by, read_unit, refusing, plan_by}
use Rattle.calls.specs.Steps.{Step, Went, went}
use Rattle.order.specs.Order.{InOrder, EndsThere, WritesUnits}
use Rattle.calling.specs.Seen.{seen}
use Rattle.calling.specs.Reading.{unit_read}
use Rattle.calling.proofs.Mounted.{idle_mounted}
use Rattle.engine.specs.Called.{admission, Called}
use Rattle.engine.proofs.Admitted.{plain, judged_plain, passed, told, called, barred}
use Rattle.engine.proofs.Ordered.{in_order}

-- a refusal that is none
refuses : {X : Type 0} {e : Refusal} → Some e ≡ None → X
refuses h = let z : ◌≡◌ {A = ℕ} 0 1 = cc in absurd (omega arith)

-- the state that each call is let through in
module _ (d : Bool) where
  pub format_unmounted : (s : State) → Ok tt ≡ admission d (judge {R = Unit {0}} s Format) → s ≡ Unmounted
  format_unmounted Unmounted h = refl
  format_unmounted Idle h = refuses (passed h).1
  format_unmounted Open h = refuses (passed h).1

  pub mount_unmounted : (s : State) → Ok tt ≡ admission d (judge {R = Unit {0}} s Mount) → s ≡ Unmounted
  mount_unmounted Unmounted h = refl
  mount_unmounted Idle h = refuses (passed h).1
  mount_unmounted Open h = refuses (passed h).1

  pub commit_open : (s : State) → Ok tt ≡ admission d (judge {R = Unit {0}} s Commit) → s ≡ Open
  commit_open Unmounted h = refuses (passed h).1
  commit_open Idle h = refuses (passed h).1
  commit_open Open h = refl

  pub close_idle : (s : State) → Ok tt ≡ admission d (judge {R = Unit {0}} s Close) → s ≡ Idle
  close_idle Unmounted h = refuses (passed h).1
  close_idle Idle h = refl
  close_idle Open h = refuses (passed h).1

  pub checkpoint_mounted : (s : State) → Ok tt ≡ admission d (judge {R = Unit {0}} s Checkpoint) → s ≡ Unmounted → ⊥
  checkpoint_mounted Unmounted h e = refuses (passed h).1
  checkpoint_mounted Idle h e = idle_mounted e
  checkpoint_mounted Open h e = let z : ◌≡◌ {A = ℕ} 0 1 = cc in omega arith

  read_mounted : (s : State) (r : ℕ) → Ok tt ≡ admission d (judge {R = Unit {0}} s (Read r)) → s ≡ Unmounted → ⊥
  read_mounted Unmounted r h e = refuses (passed h).1
  read_mounted Idle r h e = idle_mounted e
  read_mounted Open r h e = let z : ◌≡◌ {A = ℕ} 0 1 = cc in omega arith

-- a call that was not let through is refused, however its other answers are told
pub stopped : {R V : Type 0} {kind : Kind R} {m : Machine} {call : Call R} (answer : Result V Refusal → Answer R) → ((x : Refusal) → answer (Err x) ≡ Refused x)
    → WritesUnits kind → EndsThere m → (e : Refusal) → Err e ≡ admission (is_dark m.devices) (judge m.state (plain call)) → (r : Result V Refusal) → IsErrAnd r (λ y. y ≡ e)
    → Called kind m call (answer r) m
stopped {kind = kind} {m = m} {call = call} answer is units ends e h r b = told answer is e r b (barred kind units m ends call e h)

-- what a read of a unit tells of the number
reached : (u v : List ℕ) (x y : Bool) → Ok u ≡ cond x (Err Dark) (cond y (Ok v) (Err NoSuchRecord)) → (y ≡ true) × (u ≡ v)
reached u v true y h = let z : ◌≡◌ {A = ℕ} 0 1 = cc in absurd (omega arith)
reached u v false true h = (refl, cc)
reached u v false false h = let z : ◌≡◌ {A = ℕ} 0 1 = cc in absurd (omega arith)

beyond : (e : Refusal) (v : List ℕ) (x y : Bool) → x ≡ false → Err e ≡ cond x (Err Dark) (cond y (Ok v) (Err NoSuchRecord)) → (y ≡ false) × (e ≡ NoSuchRecord)
beyond e v true y d h = let z : ◌≡◌ {A = ℕ} 0 1 = cc in absurd (omega arith)
beyond e v false true d h = let z : ◌≡◌ {A = ℕ} 0 1 = cc in absurd (omega arith)
beyond e v false false d h = (refl, cc)

-- A read that was let through, by its plan: the unit that it finds decides.
module _ {R : Type 0} (kind : Kind R) (units : WritesUnits kind) (m : Machine) (ends : EndsThere m) (r : ℕ) (entered : Ok tt ≡ admission (is_dark m.devices) (judge {R = Unit {0}} m.state (Read r)))
    (order : ∥ InOrder m ∥₁) where
  abbrev answered : Plan R
  answered = record { acts = []; answer = read_unit kind (lay m.list (table_of m) r); state = m.state; list = m.list }

  -- what a read of a unit answers in a mounted store in order
  abbrev Reads : Result (List ℕ) Refusal → Type 0
  Reads x = (m.state ≡ Unmounted → ⊥) → InOrder m → x ≡ unit_read m r

  was_read : (x : Result (List ℕ) Refusal) → Reads x → x ≡ unit_read m r
  was_read x f = f (read_mounted _ m.state r entered) (in_order m order)

  by_plan : (inside : Bool) → ltb r (records_of (blocks_of m)) ≡ inside → (a : Answer R) → Went (cond inside answered (refusing m NoSuchRecord)) m a m → Called kind m (Read r) a m
  by_plan inside is a w =
      let judged : judge {R = R} m.state (Read r) ≡ None = sym (judged_plain m.state (Read r)) ∙ (passed entered).1 in
      called kind units m ends (Read r) a m
      (went (subst (λ (o : Option Refusal). Went (plan_by kind m o (Read r)) m a m) (sym judged)
      (subst (λ (b : Bool). Went (cond b answered (refusing m NoSuchRecord)) m a m) (sym is) w)))

  by_unit : (u : List ℕ) (a : Answer R) → Reads (Ok u) → a ≡ read_unit kind u → Called kind m (Read r) a m
  by_unit u a found is =
      let p = reached u (lay m.list (table_of m) r) (is_dark m.devices) (ltb r (records_of (blocks_of m))) (was_read (Ok u) found) in
      by_plan true p.0 a (record { before = (passed entered).0; says = is ∙ ap (read_unit kind) p.1; acts = done; state = refl; list = refl })

  pub read_refused : (e : Refusal) → Reads (Err e) → Called kind m (Read r) (Refused e) m
  read_refused e h =
      let p = beyond e (lay m.list (table_of m) r) (is_dark m.devices) (ltb r (records_of (blocks_of m))) (passed entered).0 (was_read (Err e) h) in
      by_plan false p.0 (Refused e) (record { before = (passed entered).0; says = ap Refused p.1; acts = done; state = refl; list = refl })

  pub read_absent : (u : List ℕ) → Reads (Ok u) → all_zero u ≡ true → Called kind m (Read r) Absent m
  read_absent u found zero = by_unit u Absent found (sym (cond-true (all_zero u) Absent (read_by (kind.reads u)) zero))

  pub read_found : (u : List ℕ) (o : Option R) → Reads (Ok u) → all_zero u ≡ false → o ≡ kind.reads u → Called kind m (Read r) (read_by o) m
  read_found u o found some is = by_unit u (read_by o) found (ap read_by is ∙ sym (cond-false (all_zero u) Absent (read_by (kind.reads u)) some))

-- a call that was let through is a step of the store, whose state and settings have other names where its devices were called
pub by_names : {R : Type 0} {kind : Kind R} {call : Call R} {a : Answer R} {nvm : NvmMeaning} {disk : DiskMeaning} {n : NvmMeaning} {d : DiskMeaning}
    {s t : State} {l k : Transaction} {s' t' : State} {l' k' : Transaction} → Step kind (seen nvm disk t k) call a (seen n d t' k') → WritesUnits kind → EndsThere (seen nvm disk s l)
    → s ≡ t → l ≡ k → s' ≡ t' → l' ≡ k' → Called kind (seen nvm disk s l) call a (seen n d s' l')
by_names {kind = kind} {call = call} {a = a} {nvm = nvm} {disk = disk} {n = n} {d = d} {s = s} {t = t} {l = l} {k = k} {s' = s'} {t' = t'} {l' = l'} step units ends p q x y =
    called kind units (seen nvm disk s l) ends call a (seen n d s' l')
    (subst (λ (i : State). Step kind (seen nvm disk i l) call a (seen n d s' l')) (sym p)
    (subst (λ (i : Transaction). Step kind (seen nvm disk t i) call a (seen n d s' l')) (sym q)
    (subst (λ (i : State). Step kind (seen nvm disk t k) call a (seen n d i l')) (sym x)
    (subst (λ (i : Transaction). Step kind (seen nvm disk t k) call a (seen n d t' i)) (sym y) step))))

-- a store in order by other names of its state and settings
pub ordered : {nvm : NvmMeaning} {disk : DiskMeaning} {s t : State} {l k : Transaction} → s ≡ t → l ≡ k → ∥ InOrder (seen nvm disk s l) ∥₁ → InOrder (seen nvm disk t k)
ordered {nvm = nvm} {disk = disk} {s = s} {t = t} {l = l} {k = k} p q o =
    subst (λ (i : State). InOrder (seen nvm disk i k)) p (subst (λ (i : Transaction). InOrder (seen nvm disk s i)) q (in_order (seen nvm disk s l) o))
