-- What is known of a store stays true at every call and restart, and the promise is upheld.
use Rattle.std.proofs.Common.{◌≡◌, Bool, true, false, cond, ◌||◌, ◌⊎◌, List, [], ◌∷◌, ◌++◌, sym, refl, ap, subst, inl, inr, append_assoc, append-nil}
use Rattle.std.proofs.lemmas.Bool.{cond-true, cond-false, cases_Bool, both_ways}
use Rattle.refusal.specs.declared.reason.Refusal.{Refusal}
use Rattle.refusal.specs.declared.reason.Refusal.TheVariants.{Dark, Mounted, BadSize}
use Rattle.calls.specs.declared.state.State.{State}
use Rattle.calls.specs.declared.state.State.TheVariants.{Unmounted, Idle, Open}
use Rattle.calls.specs.declared.call.Call.{Call}
use Rattle.calls.specs.declared.call.Call.TheVariants.{Format, Mount, Begin, Set, Clear, Read, Commit, Abandon, Checkpoint, Close}
use Rattle.calls.specs.declared.answer.Answer.{Answer}
use Rattle.calls.specs.declared.answer.Answer.TheVariants.{Refused, Done}
use Rattle.calls.specs.Acts.{format_acts}
use Rattle.calls.specs.Plans.{Machine, Kind, places_of, blocks_of, fit_sizes, refusing, plan_of}
use Rattle.calls.specs.Steps.{Step, was_dark, went, went_dark, MachineRestarted}
use Rattle.order.specs.Order.{FairSettings, EndsThere}
use Rattle.order.proofs.Settings.{no_settings}
use Rattle.order.proofs.Kept.{calls_keep_order}
use Rattle.order.proofs.Unchanged.{restarts_give_order}
use Rattle.book.specs.Book.{Book, blank, next, restarted}
use Rattle.book.specs.Runs.{Event, called, restart, Run, start, asked, returned as came_back, is_format, is_kept}
use Rattle.book.specs.Commits.{is_accepted, tally}
use Rattle.book.specs.Promise.{Lawful, Promised, Right}
use Rattle.book.proofs.Went.{machine, idle_mounted, open_mounted}
use Rattle.book.proofs.Formats.{barred_same}
use Rattle.book.proofs.Main.{follows, begins, every_run_keeps_the_book}
use Rattle.promise.specs.History.{History, unknown, since, is_mounted, barred, format_refused, format_heard, call_heard, heard, returned, Came, Past, Known}
use Rattle.promise.specs.Told.{RightBy, Upheld}
use Rattle.promise.specs.Laws.{NewStoresAreKnown, KnownStoresKeepThePromise, CallsAreHeard, RestartsAreHeard}

barred_cases : (d : Bool) (s : State) → (d || is_mounted s) ≡ true → (d ≡ true) ⊎ (s ≡ Unmounted → ⊥)
barred_cases true s h = inl refl
barred_cases false Unmounted h = absurd (both_ways false refl h)
barred_cases false Idle h = inr idle_mounted
barred_cases false Open h = inr open_mounted

pub new_stores_are_known : {R : Type 0} (kind : Kind R) → NewStoresAreKnown kind
new_stores_are_known kind m s l = record {
  order = record { settings = subst (FairSettings (blocks_of m)) (sym l) (no_settings (blocks_of m)); mounted = λ lit mounted. absurd (mounted s) };
  past = tt;
}

module _ {R : Type 0} (kind : Kind R) where
  -- a format answers done or is refused
  abbrev Plain : Answer R → Type 0
  Plain a = (a ≡ Done) ⊎ ((e : Refusal) × (a ≡ Refused e))

  format_answers : (m n : Machine) (a : Answer R) → Step kind m Format a n → Plain a
  format_answers m n a (was_dark w) = inr (Dark, w.says)
  format_answers m n a (went_dark w) = inr (Dark, w.says)
  format_answers m n a (went w) = by_state m.state w.says
    where
      by_sizes : (x : Bool)
          → a ≡ (cond x (record { acts = format_acts (places_of m) (blocks_of m); answer = Done; state = Unmounted; list = [] }) (refusing {R = R} (machine m.devices Unmounted m.list) BadSize)).answer
          → Plain a
      by_sizes true e = inl e
      by_sizes false e = inr (BadSize, e)

      by_state : (s : State) → a ≡ (plan_of kind (machine m.devices s m.list) Format).answer → Plain a
      by_state Unmounted e = by_sizes (fit_sizes m.devices.nvm.size (blocks_of m)) e
      by_state Idle e = inr (Mounted, e)
      by_state Open e = inr (Mounted, e)

  accepted_done : (m n : Machine) (a : Answer R) → is_accepted a ≡ true → Step kind m Format a n → a ≡ Done
  accepted_done m n a h s = elim (format_answers m n a s) [ inl e ↦ e | inr e ↦ absurd (both_ways (is_accepted a) (ap is_accepted e.1) h) ]

  -- a run that goes on is one run
  run_on : (m₁ : Machine) (b₁ : Book) (es : List (Event R)) (m : Machine) (b : Book) → Run kind m₁ b₁ es m b
      → (more : List (Event R)) (n : Machine) (c : Book) → Run kind m b more n c → Run kind m₁ b₁ (es ++ more) n c
  run_on m₁ b₁ es m b r more n c start = subst (λ (x : List (Event R)). Run kind m₁ b₁ x m b) (sym (append-nil es)) r
  run_on m₁ b₁ es m b r more n c (asked {events} {m = x} {b = y} {call} {a} run f s) =
      subst (λ (z : List (Event R)). Run kind m₁ b₁ z n (next kind y call a)) (append_assoc es events (called call a ∷ []))
      (asked (run_on m₁ b₁ es m b r events x y run) f s)
  run_on m₁ b₁ es m b r more n c (came_back {events} {m = x} {b = y} run s) =
      subst (λ (z : List (Event R)). Run kind m₁ b₁ z n (restarted y (is_kept y n))) (append_assoc es events (restart ∷ []))
      (came_back (run_on m₁ b₁ es m b r events x y run) s)

  module _ (lawful : Lawful kind) where
    -- the promise, where the store came this way
    promised : (es : List (Event R)) (b : Book) (m : Machine) → Came kind es b m → Promised kind es m b
    promised es b m k = every_run_keeps_the_book kind lawful k.before k.first k.ends k.format es m b k.run

    upheld_past : (h : History R) (m : Machine) → Past kind h m → Upheld kind h m
    upheld_past unknown m k = tt
    upheld_past (since es b) m k = λ more n c r.
        every_run_keeps_the_book kind lawful k.before k.first k.ends k.format (es ++ more) n c (run_on k.first blank es m b k.run more n c r)

    pub known_stores_keep_the_promise : KnownStoresKeepThePromise kind
    known_stores_keep_the_promise h m k = upheld_past h m k.past

    -- a further format and every other call are answered right
    answered : (es : List (Event R)) (b : Book) (m n : Machine) (call : Call R) (a : Answer R) → Promised kind es m b → Step kind m call a n
        → Right kind (places_of m) (blocks_of m) b (tally kind es).lying call a
    answered es b m n Format a p s = p.formats a n s
    answered es b m n Mount a p s = p.answers Mount a n refl s
    answered es b m n Begin a p s = p.answers Begin a n refl s
    answered es b m n (Set r x) a p s = p.answers (Set r x) a n refl s
    answered es b m n (Clear r) a p s = p.answers (Clear r) a n refl s
    answered es b m n (Read r) a p s = p.answers (Read r) a n refl s
    answered es b m n Commit a p s = p.answers Commit a n refl s
    answered es b m n Abandon a p s = p.answers Abandon a n refl s
    answered es b m n Checkpoint a p s = p.answers Checkpoint a n refl s
    answered es b m n Close a p s = p.answers Close a n refl s

    right_past : (h : History R) (m n : Machine) (call : Call R) (a : Answer R) → Past kind h m → Step kind m call a n → RightBy kind h m call a
    right_past unknown m n call a k s = tt
    right_past (since es b) m n call a k s =
        let p = promised es b m k in
        record {
          promised = p;
          right = answered es b m n call a p s;
          read = λ r e. p.reads r a n (subst (λ (x : Call R). Step kind m x a n) e s);
          mount = λ e u. p.mounts u a n (subst (λ (x : Call R). Step kind m x a n) e s);
        }

    -- every call is answered right by what is known
    pub calls_are_right : (h : History R) (m n : Machine) (call : Call R) (a : Answer R) → Known kind h m → Step kind m call a n → RightBy kind h m call a
    calls_are_right h m n call a k s = right_past h m n call a k.past s

    -- a format that the book bars changes nothing
    refused_past : (h : History R) (m n : Machine) (a : Answer R) → Past kind h m → Step kind m Format a n → Past kind (format_refused h) n
    refused_past unknown m n a k s = tt
    refused_past (since es b) m n a k s = elim (cases_Bool (barred b)) [
      | inl is ↦
          subst (λ (x : History R). Past kind x n) (sym (cond-true (barred b) (since es b) unknown is))
          (subst (λ (x : Machine). Came kind es b x)
          (sym (barred_same kind lawful (places_of k.before) (blocks_of k.before) m n b (tally kind es) a
          (follows kind lawful (places_of k.before) (blocks_of k.before) k.first m b es (begins kind lawful k.before k.first k.ends k.format) k.run)
          (barred_cases b.dark b.state is) s))
          k)
      | inr not ↦ subst (λ (x : History R). Past kind x n) (sym (cond-false (barred b) (since es b) unknown not)) tt
    ]

    format_past : (h : History R) (m n : Machine) (a : Answer R) → EndsThere m → Past kind h m → Step kind m Format a n → Past kind (format_heard h a) n
    format_past h m n a ends k s = elim (cases_Bool (is_accepted a)) [
      | inl is ↦
          subst (λ (x : History R). Past kind x n) (sym (cond-true (is_accepted a) (since [] blank) (format_refused h) is))
          (record { before = m; ends = ends; first = n; format = subst (λ (x : Answer R). Step kind m Format x n) (accepted_done m n a is s) s; run = start })
      | inr not ↦ subst (λ (x : History R). Past kind x n) (sym (cond-false (is_accepted a) (since [] blank) (format_refused h) not)) (refused_past h m n a k s)
    ]

    call_past : (h : History R) (m n : Machine) (call : Call R) (a : Answer R) → is_format call ≡ false → Past kind h m → Step kind m call a n → Past kind (call_heard kind h call a) n
    call_past unknown m n call a f k s = tt
    call_past (since es b) m n call a f k s =
        record { before = k.before; ends = k.ends; first = k.first; format = k.format; run = asked k.run f s }

    heard_past : (h : History R) (m n : Machine) (call : Call R) (a : Answer R) → EndsThere m → Past kind h m → Step kind m call a n → Past kind (heard kind h call a) n
    heard_past h m n Format a e k s = format_past h m n a e k s
    heard_past h m n Mount a e k s = call_past h m n Mount a refl k s
    heard_past h m n Begin a e k s = call_past h m n Begin a refl k s
    heard_past h m n (Set r x) a e k s = call_past h m n (Set r x) a refl k s
    heard_past h m n (Clear r) a e k s = call_past h m n (Clear r) a refl k s
    heard_past h m n (Read r) a e k s = call_past h m n (Read r) a refl k s
    heard_past h m n Commit a e k s = call_past h m n Commit a refl k s
    heard_past h m n Abandon a e k s = call_past h m n Abandon a refl k s
    heard_past h m n Checkpoint a e k s = call_past h m n Checkpoint a refl k s
    heard_past h m n Close a e k s = call_past h m n Close a refl k s

    -- what is known after a call is true
    pub calls_stay_known : (h : History R) (m n : Machine) (call : Call R) (a : Answer R) → EndsThere m → Known kind h m → Step kind m call a n → Known kind (heard kind h call a) n
    calls_stay_known h m n call a ends k s =
        record { order = calls_keep_order kind lawful.whole m n call a k.order ends s; past = heard_past h m n call a ends k.past s }

    pub calls_are_heard : CallsAreHeard kind
    calls_are_heard h m n call a ends k s = (calls_are_right h m n call a k s, calls_stay_known h m n call a ends k s)

  returned_past : (h : History R) (m n : Machine) → Past kind h m → MachineRestarted m n → Past kind (returned h n) n
  returned_past unknown m n k r = tt
  returned_past (since es b) m n k r = record { before = k.before; ends = k.ends; first = k.first; format = k.format; run = came_back k.run r }

  pub restarts_are_heard : RestartsAreHeard kind
  restarts_are_heard h m n k r = record { order = restarts_give_order m n r; past = returned_past h m n k.past r }
