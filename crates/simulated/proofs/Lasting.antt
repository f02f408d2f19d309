-- Power lasts for exactly as many performed acts as there were left. Assumes nothing.
use Rattle.std.proofs.Common.{◌≡◌, ℕ, ◌+◌, ◌<◌, Bool, true, false, cond, eqb, List, [], ◌∷◌, is_ok, Some, None, Option, sym, refl, ap, arith}
use Rattle.std.proofs.lemmas.Bool.{eqb-true, eqb-false, eq-eqb}
use Rattle.refusal.specs.declared.reason.Refusal.{Refusal}
use Rattle.device.specs.Pieces.{Piece}
use Rattle.device.specs.Devices.{Rules, refusal_of}
use Rattle.simulated.specs.Natures.{Simulated, outcome_of, answer_of, state_of, answers, becomes}
use Rattle.simulated.specs.Lasting.{after_acts, performed_in, Lasts}
use Rattle.simulated.proofs.Laws.{dark_answer, dark_state}

module _ {Act Mark Value : Type 0} (rules : Rules Act Mark Value) (nature : Act → ℕ → Piece Mark Value → Piece Mark Value) where
  -- one act is counted if it is performed
  count : (s : Simulated Mark Value) (a : Act) → cond (is_ok (answers rules s a)) 1 0 + (becomes rules (nature a) s a).left ≡ s.left
  count s a = by_tests (refusal_of rules s.meaning a) (eqb s.left 0) refl
    where
      by_tests : (o : Option Refusal) (z : Bool) → eqb s.left 0 ≡ z → cond (is_ok (answer_of (outcome_of o z))) 1 0 + (state_of (nature a) s (outcome_of o z)).left ≡ s.left
      by_tests (Some e) z i = omega arith
      by_tests None true i = omega arith
      by_tests None false i = let ne = eqb-false s.left 0 i in omega (arith, ne)

  counts : (s : Simulated Mark Value) (acts : List Act) → performed_in rules nature s acts + (after_acts rules nature s acts).left ≡ s.left
  unfolding performed_in after_acts
  counts s [] = omega arith
  counts s (a ∷ rest) = omega (arith, count s a, counts (becomes rules (nature a) s a) rest)

  -- a dark device has no acts left
  dark_spent : (s : Simulated Mark Value) (a : Act) → (s.meaning.dark ≡ true → s.left ≡ 0) → (becomes rules (nature a) s a).meaning.dark ≡ true → (becomes rules (nature a) s a).left ≡ 0
  dark_spent s a h = by_tests (refusal_of rules s.meaning a) (eqb s.left 0) refl
    where
      by_tests : (o : Option Refusal) (z : Bool) → eqb s.left 0 ≡ z → (state_of (nature a) s (outcome_of o z)).meaning.dark ≡ true → (state_of (nature a) s (outcome_of o z)).left ≡ 0
      by_tests (Some e) z i d = h d
      by_tests None true i d = eqb-true s.left 0 i
      by_tests None false i d = absurd (eqb-false s.left 0 i (h d))

  all_spent : (s : Simulated Mark Value) (acts : List Act) → (s.meaning.dark ≡ true → s.left ≡ 0) → (after_acts rules nature s acts).meaning.dark ≡ true → (after_acts rules nature s acts).left ≡ 0
  unfolding after_acts
  all_spent s [] h d = h d
  all_spent s (a ∷ rest) h d = all_spent (becomes rules (nature a) s a) rest (dark_spent s a h) d

  not_before_lem : (s : Simulated Mark Value) (acts : List Act) → s.meaning.dark ≡ false → performed_in rules nature s acts < s.left → (after_acts rules nature s acts).meaning.dark ≡ false
  not_before_lem s acts lit few = by_test (after_acts rules nature s acts).meaning.dark refl
    where
      by_test : (t : Bool) → (after_acts rules nature s acts).meaning.dark ≡ t → t ≡ false
      by_test true i =
          let none = all_spent s acts (λ d. let z : ◌≡◌ {A = ℕ} 0 1 = cc in absurd (omega arith)) i in
          absurd (omega (arith, none, counts s acts))
      by_test false i = refl

  pub lasts : Lasts rules nature
  lasts = record {
    counted = counts;
    not_before = not_before_lem;
    not_after = λ s acts a all free.
        let spent : eqb (after_acts rules nature s acts).left 0 ≡ true = eq-eqb (after_acts rules nature s acts).left 0 (omega (arith, counts s acts)) in (
          sym (dark_answer rules (nature a) (after_acts rules nature s acts) a free spent),
          sym (ap (λ x. x.meaning.dark) (dark_state rules (nature a) (after_acts rules nature s acts) a free spent)),
        );
  }
