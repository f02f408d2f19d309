-- What a cut at any act and a restart can bring back. Assumes nothing.
use Rattle.std.proofs.Common.{◌≡◌, ℕ, ◌⊎◌, List, [], ◌∷◌, sym, refl, ap, ◌∙◌, subst, inl, inr}
use Rattle.device.specs.Pieces.{Piece, settled, settled_value, present_value, MaySettle, ComesBack}
use Rattle.device.specs.Devices.{Meaning, Rules, Restarted}
use Rattle.crash.specs.Runs.{done, then}
use Rattle.crash.specs.Acts.{PerformedOn, Begun, contents, Mixed}
use Rattle.crash.specs.Keeping.{Tame, kept, Brings, Quiet}
use Rattle.crash.specs.Crash.{CutPhaseBlends, QuietActsShowNothing}
use Rattle.crash.proofs.Runs.{each_front, each_turned}
use Rattle.crash.proofs.Steps.{restart_settles}
use Rattle.crash.proofs.Follow.{contents_follow}

-- a value is x or y; both values of a piece are
abbrev One : {Value : Type 0} → Value → Value → Value → Type 0
One x y v = (v ≡ x) ⊎ (v ≡ y)

abbrev Two : {Mark Value : Type 0} → Value → Value → Piece Mark Value → Type 0
Two x y c = One x y (settled_value c) × One x y (present_value c)

module _ {Value : Type 0} (x y : Value) where
  one_same : {u v : Value} → u ≡ v → One x y v → One x y u
  one_same e (inl h) = inl (e ∙ h)
  one_same e (inr h) = inr (e ∙ h)

  one_moved : {u v : Value} → (u ≡ v) ⊎ (u ≡ y) → One x y v → One x y u
  one_moved (inl e) h = one_same e h
  one_moved (inr e) h = inr e

  one_either : {u v w : Value} → (u ≡ v) ⊎ (u ≡ w) → One x y v → One x y w → One x y u
  one_either (inl e) h k = one_same e h
  one_either (inr e) h k = one_same e k

module _ {Mark Value : Type 0} (x y : Value) where
  two_may : {c d : Piece Mark Value} → MaySettle c d → Two x y c → Two x y d
  two_may (inl e) h = subst (Two x y) (sym e) h
  two_may (inr e) h = subst (Two x y) (sym e) (h.1, h.1)

  two_back : (c d : Piece Mark Value) → ComesBack c d → Two x y c → One x y (present_value d)
  two_back c d (inl e) h = one_same x y (ap present_value e) h.0
  two_back c d (inr e) h = one_same x y (ap present_value e) h.1

module _ {Act Mark Value : Type 0} (rules : Rules Act Mark Value) (keeps : Act → ℕ → Value → Value) (tame : Tame rules keeps) where
  two_makes : (x y : Value) (a : Act) (i : ℕ) (c : Piece Mark Value) → ((p : Value) → (keeps a i p ≡ p) ⊎ (keeps a i p ≡ y)) → Two x y c → Two x y (rules.makes a i c)
  two_makes x y a i c brings h = (
    one_either x y (tame.old a i c) h.0 h.1,
    one_same x y (tame.present a i c) (one_moved x y (brings (present_value c)) h.1),
  )

  run_two : (c d : ℕ → Value) {acts : List Act} {m n : Meaning Mark Value} → PerformedOn rules m acts n → Brings keeps d acts → (i : ℕ)
      → Two (c i) (d i) (m.piece i) → Two (c i) (d i) (n.piece i)
  run_two c d done b i h = h
  run_two c d (then {m = m} {a = a} s r) (here, b) i h =
      run_two c d r b i (two_may (c i) (d i) (s.pieces i) (two_makes (c i) (d i) a i (m.piece i) (here i) h))

  pub begun_mixed : (c d : ℕ → Value) (acts : List Act) (m n : Meaning Mark Value) → Mixed c d m → Brings keeps d acts → Begun rules m acts n → Mixed c d n
  begun_mixed c d acts m n mix brings b =
      let front = each_front _ b.front b.back (subst (Brings keeps d) b.parts brings) in
      let at : (i : ℕ) → Two (c i) (d i) (n.piece i) =
      λ i. subst (Two (c i) (d i)) (sym (b.pieces i)) (run_two c d b.ran front i (mix.0 i, mix.1 i))
      in
      ((λ i. (at i).0), (λ i. (at i).1))

  pub cut_phase_blends : CutPhaseBlends rules keeps
  cut_phase_blends c d acts m n p mix brings b again =
      let here = begun_mixed c d acts m n mix brings b in
      (restart_settles Mark Value n p again, (λ i. two_back (c i) (d i) (n.piece i) (p.piece i) (again.pieces i) (here.0 i, here.1 i)))

  -- acts that move no present value
  quiet_kept : (acts : List Act) → Quiet keeps acts → (i : ℕ) (p : Value) → kept keeps acts i p ≡ p
  quiet_kept [] q i p = refl
  quiet_kept (a ∷ more) (here, q) i p = ap (kept keeps more i) (here i p) ∙ quiet_kept more q i p

  pub quiet_acts_show_nothing : QuietActsShowNothing rules keeps
  quiet_acts_show_nothing acts m n q b = (same, back)
    where
      same : (i : ℕ) → contents n i ≡ contents m i
      same i =
          let front = each_front _ b.front b.back (subst (Quiet keeps) b.parts q) in
          ap present_value (b.pieces i) ∙ contents_follow rules keeps tame b.front m b.middle b.ran i ∙ quiet_kept b.front front i (contents m i)

      back : (p : Meaning Mark Value) → Restarted n p → (i : ℕ) → ComesBack (m.piece i) (p.piece i)
      back p again i =
          let brings : Brings keeps (contents m) acts = each_turned _ _ (λ a h j v. inl (h j v)) acts q in
          let (rests, blend) = cut_phase_blends (λ j. settled_value (m.piece j)) (contents m) acts m n p ((λ j. inl refl), (λ j. inr refl)) brings b again in
          elim (blend i) [ inl e ↦ inl (rests i ∙ ap settled e) | inr e ↦ inr (rests i ∙ ap settled e) ]
