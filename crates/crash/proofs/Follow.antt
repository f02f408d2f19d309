-- What a run leaves follows from its acts. Assumes nothing.
use Rattle.std.proofs.Common.{◌≡◌, ℕ, Bool, true, false, List, [], ◌∷◌, ◌++◌, Ok, Err, Result, sym, refl, ap, ◌∙◌, subst, arith}
use Rattle.refusal.specs.declared.reason.Refusal.{Refusal}
use Rattle.refusal.specs.declared.reason.Refusal.TheVariants.{Dark}
use Rattle.device.specs.Pieces.{Piece, settled, unsettled, present_value, is_unsettled}
use Rattle.device.specs.Devices.{Meaning, Rules, darkened, Performs, Refuses}
use Rattle.crash.specs.Runs.{done, then}
use Rattle.crash.specs.Acts.{PerformedOn, HaltedOn, RanOn, RanOrDark, CutOn, Begun, Rests, made, Calmer, Leads, Spares, Accepts}
use Rattle.crash.specs.Keeping.{Tame, kept}
use Rattle.crash.specs.Narrow.{SizeStaysInRuns, DarkRunsNothing, UntouchedStays}
use Rattle.crash.specs.Crash.{RunsHaveBegun, UntouchedOutlasts, MarksFollow, PhaseSettles, OnlyDarknessStops, ContentsFollow}
use Rattle.crash.proofs.Runs.{each_front}
use Rattle.crash.proofs.Tame.{calmer_self, calmer_present, calmer_settled}
use Rattle.crash.proofs.Steps.{may_present, may_calmer, may_settled, settled_is, back_settled, refusals_move_nothing, refusals_keep_size, dark_stays_dark, only_dark}

-- lists of acts, one after another
module _ {Act Mark Value : Type 0} (rules : Rules Act Mark Value) where
  pub made_append : (xs ys : List Act) (i : ℕ) (c : Piece Mark Value) → made rules (xs ++ ys) i c ≡ made rules ys i (made rules xs i c)
  made_append [] ys i c = refl
  made_append (a ∷ xs) ys i c = made_append xs ys i (rules.makes a i c)

  pub leads_append : (c d e : ℕ → Value) (xs ys : List Act) → Leads rules c xs d → Leads rules d ys e → Leads rules c (xs ++ ys) e
  leads_append c d e xs ys h k i = made_append xs ys i (settled (c i)) ∙ ap (made rules ys i) (h i) ∙ k i

  pub accepts_append : (xs ys : List Act) (u : ℕ) (piece : ℕ → Piece Mark Value)
      → Accepts rules u piece xs → Accepts rules u (λ i. made rules xs i (piece i)) ys → Accepts rules u piece (xs ++ ys)
  accepts_append [] ys u piece h k = k
  accepts_append (a ∷ xs) ys u piece (in-it, free, h) k = (in-it, free, accepts_append xs ys u (λ i. rules.makes a i (piece i)) h k)

pub kept_append : {Act Value : Type 0} (keeps : Act → ℕ → Value → Value) (xs ys : List Act) (i : ℕ) (p : Value)
    → kept keeps (xs ++ ys) i p ≡ kept keeps ys i (kept keeps xs i p)
kept_append keeps [] ys i p = refl
kept_append keeps (a ∷ xs) ys i p = kept_append keeps xs ys i (keeps a i p)

module _ {Act Mark Value : Type 0} (rules : Rules Act Mark Value) where
  -- no run changes the size
  pub run_size : {acts : List Act} {m n : Meaning Mark Value} → PerformedOn rules m acts n → n.size ≡ m.size
  run_size done = refl
  run_size (then s r) = run_size r ∙ s.size

  -- nor the power
  pub run_power : {acts : List Act} {m n : Meaning Mark Value} → PerformedOn rules m acts n → n.dark ≡ m.dark
  run_power done = refl
  run_power (then s r) = run_power r ∙ s.power

  -- a run that was performed has begun, and so has one that was cut
  pub performed_begun : {acts : List Act} {m n : Meaning Mark Value} → PerformedOn rules m acts n → Begun rules m acts n
  performed_begun {acts} {m} {n} r = record { front = acts; back = []; parts = nothing_after acts; middle = n; ran = r; size = refl; pieces = λ i. refl }
    where
      nothing_after : (xs : List Act) → xs ≡ xs ++ []
      nothing_after [] = refl
      nothing_after (x ∷ xs) = ap (λ t. x ∷ t) (nothing_after xs)

  pub cut_begun : {acts : List Act} {m n : Meaning Mark Value} → CutOn rules m acts n → Begun rules m acts n
  cut_begun c = record {
    front = c.front;
    back = c.act ∷ c.back;
    parts = c.parts;
    middle = c.middle;
    ran = c.ran;
    size = ap (λ (k : Meaning Mark Value). k.size) c.stops;
    pieces = λ i. ap (λ (k : Meaning Mark Value). k.piece i) c.stops;
  }

  pub halted_begun : {acts : List Act} {m n : Meaning Mark Value} (e : Refusal) → HaltedOn rules m acts e n → Begun rules m acts n
  halted_begun {n = n} e c = record {
    front = c.front;
    back = c.act ∷ c.back;
    parts = c.parts;
    middle = c.middle;
    ran = c.ran;
    size = refusals_keep_size rules c.middle n c.act e c.stops;
    pieces = refusals_move_nothing rules c.middle n c.act e c.stops;
  }

  pub runs_have_begun : RunsHaveBegun rules
  runs_have_begun acts m n = ((λ r. performed_begun r), (λ c. cut_begun c), (λ e h. halted_begun e h))

  pub begun_size : {acts : List Act} {m n : Meaning Mark Value} → Begun rules m acts n → n.size ≡ m.size
  begun_size b = b.size ∙ run_size b.ran

  pub size_stays_in_runs : SizeStaysInRuns rules
  size_stays_in_runs acts m n b = begun_size b

  -- a dark device performs nothing
  dark_performed : {acts : List Act} {m n : Meaning Mark Value} → m.dark ≡ true → PerformedOn rules m acts n → n ≡ m
  dark_performed e done = refl
  dark_performed {m = m} e (then {p = p} {a = a} s r) = let h = (dark_stays_dark rules m p a (Ok tt) e s).0 in let z : ◌≡◌ {A = ℕ} 0 1 = cc in absurd (omega arith)

  pub dark_runs_nothing : DarkRunsNothing rules
  dark_runs_nothing acts m n (Ok u) e r = dark_performed e r
  dark_runs_nothing acts m n (Err x) e h =
      let same = dark_performed e h.ran in
      (dark_stays_dark rules h.middle n h.act (Err x) (ap (λ (k : Meaning Mark Value). k.dark) same ∙ e) h.stops).1 ∙ same

  -- settled pieces that no act touches
  pub run_spares : (S : ℕ → Bool) {acts : List Act} {m n : Meaning Mark Value} → PerformedOn rules m acts n → Spares rules S acts
      → (i : ℕ) (v : Value) → S i ≡ true → m.piece i ≡ settled v → n.piece i ≡ settled v
  run_spares S done sp i v h e = e
  run_spares S (then {a = a} s r) (here, sp) i v h e =
      run_spares S r sp i v h (may_settled v (ap (rules.makes a i) e ∙ here i h v) (s.pieces i))

  pub untouched_stays : UntouchedStays rules
  untouched_stays S acts m n quiet sp b i h =
      let e = settled_is (m.piece i) (quiet i h) in
      let sf = each_front _ b.front b.back (subst (Spares rules S) b.parts sp) in
      b.pieces i ∙ run_spares S b.ran sf i _ h e ∙ sym e

  pub untouched_outlasts : UntouchedOutlasts rules
  untouched_outlasts S acts m n p quiet sp b again i h =
      let e = settled_is (m.piece i) (quiet i h) in
      back_settled _ (untouched_stays S acts m n quiet sp b i h ∙ e) (again.pieces i) ∙ sym e

module _ {Act Mark Value : Type 0} (rules : Rules Act Mark Value) (keeps : Act → ℕ → Value → Value) (tame : Tame rules keeps) where
  pub contents_follow : ContentsFollow rules keeps
  contents_follow acts m n done i = refl
  contents_follow acts m n (then {p = p} {a = a} {more = more} s r) i =
      contents_follow more p n r i ∙ ap (kept keeps more i) (may_present (s.pieces i) ∙ tame.present a i (m.piece i))

  -- what is calmer than one piece is calmer than a worse one
  calmer_trans : (c d e : Piece Mark Value) → Calmer c d → Calmer d e → Calmer c e
  calmer_trans c d (settled v) h k = sym (calmer_present c d h) ∙ k
  calmer_trans c (settled x) (unsettled k s p) h l = absurd l
  calmer_trans (settled y) (unsettled j r q) (unsettled k s p) h l = absurd h
  calmer_trans (unsettled i t y) (unsettled j r q) (unsettled k s p) (a, b) (x, z) = (a ∙ x, b ∙ z)

  step_calmer : {a : Act} {m n : Meaning Mark Value} (c : ℕ → Piece Mark Value) → Performs rules m a n → ((i : ℕ) → Calmer (c i) (m.piece i))
      → (i : ℕ) → Calmer (rules.makes a i (c i)) (n.piece i)
  step_calmer {a} {m} {n} c s h i =
      calmer_trans (rules.makes a i (c i)) (rules.makes a i (m.piece i)) (n.piece i) (tame.calmer a i (c i) (m.piece i) (h i)) (may_calmer _ (n.piece i) (s.pieces i))

  run_calmer : {acts : List Act} {m n : Meaning Mark Value} (c : ℕ → Piece Mark Value) → PerformedOn rules m acts n → ((i : ℕ) → Calmer (c i) (m.piece i))
      → (i : ℕ) → Calmer (made rules acts i (c i)) (n.piece i)
  run_calmer c done h i = h i
  run_calmer c (then {a = a} s r) h i = run_calmer (λ j. rules.makes a j (c j)) r (step_calmer c s h) i

  pub marks_follow : MarksFollow rules
  marks_follow acts m n r i = run_calmer m.piece r (λ j. calmer_self (m.piece j)) i

  -- what the acts make settled is settled
  pub run_settles : {acts : List Act} {m n : Meaning Mark Value} → PerformedOn rules m acts n → (i : ℕ)
      → is_unsettled (made rules acts i (m.piece i)) ≡ false → n.piece i ≡ settled (present_value (made rules acts i (m.piece i)))
  run_settles {acts} {m} {n} r i e = calmer_settled _ (n.piece i) (marks_follow acts m n r i) e

  pub phase_settles : PhaseSettles rules
  phase_settles c d acts m n calm leads r i =
      let e = ap (made rules acts i) (calm i) ∙ leads i in
      run_settles r i (ap is_unsettled e) ∙ ap (λ x. settled (present_value x)) e

  -- only darkness stops what is accepted
  pub stops_dark : {front : List Act} {m mid n : Meaning Mark Value} {e : Refusal} (a : Act) (back : List Act) (c : ℕ → Piece Mark Value) → PerformedOn rules m front mid
      → Accepts rules m.size c (front ++ a ∷ back) → ((i : ℕ) → Calmer (c i) (m.piece i)) → Refuses rules mid a e n → (e ≡ Dark) × (n ≡ darkened mid)
  stops_dark {m = m} {n = n} {e = e} a back c done (in-it, free, more) h r = only_dark rules m n a e in-it (tame.opens a c m.piece h free) r
  stops_dark a back c (then {a = first} {more = more} s r) (in-it, free, acc) h q =
      let next = subst (λ (u : ℕ). Accepts rules u (λ i. rules.makes first i (c i)) (more ++ a ∷ back)) (sym s.size) acc in
      stops_dark a back (λ i. rules.makes first i (c i)) r next (step_calmer c s h) q

  pub only_darkness_stops : OnlyDarknessStops rules
  only_darkness_stops acts m n e acc k =
      let (d, i) = stops_dark k.act k.back m.piece k.ran (subst (Accepts rules m.size m.piece) k.parts acc) (λ j. calmer_self (m.piece j)) k.stops in
      (d, record { front = k.front; act = k.act; back = k.back; parts = k.parts; middle = k.middle; ran = k.ran; stops = i })

  -- a device with calmer pieces accepts no less
  pub accepts_calmer : (u : ℕ) (c d : ℕ → Piece Mark Value) (acts : List Act) → ((i : ℕ) → Calmer (c i) (d i)) → Accepts rules u c acts → Accepts rules u d acts
  accepts_calmer u c d [] h acc = tt
  accepts_calmer u c d (a ∷ more) h (in-it, free, acc) = (
    in-it,
    tame.opens a c d h free,
    accepts_calmer u (λ i. rules.makes a i (c i)) (λ i. rules.makes a i (d i)) more (λ i. tame.calmer a i (c i) (d i) (h i)) acc,
  )

  -- what is accepted at settled contents is accepted where everything is settled at them
  pub accepts_settled : (c : ℕ → Value) (m : Meaning Mark Value) (acts : List Act) → Rests c m → Accepts rules m.size (λ i. settled (c i)) acts → Accepts rules m.size m.piece acts
  accepts_settled c m acts calm = accepts_calmer m.size (λ i. settled (c i)) m.piece acts (λ i. subst (Calmer (settled (c i))) (sym (calm i)) refl)

  pub ran_or_dark : {V : Type 0} (acts : List Act) (m n : Meaning Mark Value) (r : Result V Refusal)
      → Accepts rules m.size m.piece acts → RanOn rules m acts r n → RanOrDark rules m acts r n
  ran_or_dark acts m n (Ok v) acc h = h
  ran_or_dark acts m n (Err e) acc h = only_darkness_stops acts m n e acc h
