-- What follows for a simulated device from its nature. Assumes nothing.
use Rattle.std.proofs.Common.{◌≡◌, ℕ, ◌-◌, Bool, true, false, cond, eqb, Some, None, Ok, Err, Option, Result, sym, refl, ap, ◌∙◌, subst, inl, inr, arith}
use Rattle.refusal.specs.declared.reason.Refusal.{Refusal}
use Rattle.refusal.specs.declared.reason.Refusal.TheVariants.{Dark, Beyond, Unsettled}
use Rattle.device.specs.declared.comeback.Comeback.{Comeback}
use Rattle.device.specs.Pieces.{Piece, settled, present_value, settled_value, MaySettle, ComesBack}
use Rattle.device.specs.Devices.{Rules, darkened, refusal_of, Acted, Restarted}
use Rattle.simulated.specs.Power.{Power, spend_answer, spent}
use Rattle.simulated.specs.Natures.{Simulated, outcome_of, answer_of, state_of, performed_by, answers, becomes, takes_new, returned}

-- two simulated devices are equal if all their parts are
pub same_state : {Mark Value : Type 0} (s t : Simulated Mark Value) → s.meaning.size ≡ t.meaning.size → s.meaning.dark ≡ t.meaning.dark
    → ((i : ℕ) → s.meaning.piece i ≡ t.meaning.piece i) → s.left ≡ t.left → s ≡ t
same_state s t size power pieces left = λ i. record { meaning = record { size = size i; dark = power i; piece = λ x. pieces x i }; left = left i }

module _ {Act Mark Value : Type 0} (rules : Rules Act Mark Value) (makes : ℕ → Piece Mark Value → Piece Mark Value) (s : Simulated Mark Value) (a : Act) where
  -- the outcome, by what the tests found
  outcome : (o : Option Refusal) (z : Bool) → refusal_of rules s.meaning a ≡ o → eqb s.left 0 ≡ z → outcome_of (refusal_of rules s.meaning a) (eqb s.left 0) ≡ outcome_of o z
  outcome o z i j = ap (λ x. outcome_of x (eqb s.left 0)) i ∙ ap (outcome_of o) j

  -- an act that is refused
  pub refused_answer : (e : Refusal) → refusal_of rules s.meaning a ≡ Some e → Err e ≡ answers rules s a
  refused_answer e i = sym (ap answer_of (outcome (Some e) _ i refl))

  pub refused_state : (e : Refusal) → refusal_of rules s.meaning a ≡ Some e → s ≡ becomes rules makes s a
  refused_state e i = sym (ap (state_of makes s) (outcome (Some e) _ i refl))

  -- an act that turns the device dark
  pub dark_answer : refusal_of rules s.meaning a ≡ None → eqb s.left 0 ≡ true → Err Dark ≡ answers rules s a
  dark_answer i j = sym (ap answer_of (outcome None true i j))

  pub dark_state : refusal_of rules s.meaning a ≡ None → eqb s.left 0 ≡ true → record { meaning = darkened s.meaning; left = s.left } ≡ becomes rules makes s a
  dark_state i j = sym (ap (state_of makes s) (outcome None true i j))

  -- an act that is performed
  pub performed_answer : refusal_of rules s.meaning a ≡ None → eqb s.left 0 ≡ false → Ok tt ≡ answers rules s a
  performed_answer i j = sym (ap answer_of (outcome None false i j))

  pub performed_state : refusal_of rules s.meaning a ≡ None → eqb s.left 0 ≡ false → performed_by makes s ≡ becomes rules makes s a
  performed_state i j = sym (ap (state_of makes s) (outcome None false i j))

  -- A simulated device does what every device may do, if its nature makes of each piece what the act makes of it, or settles it.
  pub acted_by : (t : Simulated Mark Value) (r : Result (Unit {0}) Refusal) → ((i : ℕ) → MaySettle (rules.makes a i (s.meaning.piece i)) (makes i (s.meaning.piece i)))
      → r ≡ answers rules s a → t ≡ becomes rules makes s a → Acted rules s.meaning a r t.meaning
  acted_by t r may answer state = by_tests (refusal_of rules s.meaning a) (eqb s.left 0) refl answer state
    where
      by_tests : (o : Option Refusal) (z : Bool) → refusal_of rules s.meaning a ≡ o → r ≡ answer_of (outcome_of o z) → t ≡ state_of makes s (outcome_of o z) → Acted rules s.meaning a r t.meaning
      by_tests (Some e) z i answer state = subst (λ x. Acted rules s.meaning a x t.meaning) (sym answer) (inl (i, ap (λ x. x.meaning) state))
      by_tests None true i answer state = subst (λ x. Acted rules s.meaning a x t.meaning) (sym answer) (inr (i, refl, ap (λ x. x.meaning) state))
      by_tests None false i answer state = subst (λ x. Acted rules s.meaning a x t.meaning) (sym answer) (record {
        allowed = i;
        size = ap (λ x. x.meaning.size) state;
        power = ap (λ x. x.meaning.dark) state;
        pieces = λ k. subst (MaySettle (rules.makes a k (s.meaning.piece k))) (sym (ap (λ x. x.meaning.piece k) state)) (may k);
      })

-- An act within the size and not blocked, on a device with these pieces: it asks the power p, which is q then.
module _ {Act Mark Value : Type 0} (rules : Rules Act Mark Value) (makes : ℕ → Piece Mark Value → Piece Mark Value) (size : ℕ) (piece : ℕ → Piece Mark Value) (a : Act)
    (within : rules.beyond size a ≡ false) (free : rules.blocked piece a ≡ false) where
  abbrev pub powered : Power → Simulated Mark Value
  powered p = record { meaning = record { size = size; dark = p.dark; piece = piece }; left = p.left }

  allowed : (left : ℕ) → refusal_of rules (record { size = size; dark = false; piece = piece }) a ≡ None
  allowed left =
      ap (λ t. cond t (Some Beyond) (cond (rules.blocked piece a) (Some Unsettled) None)) within
      ∙ ap (λ t. cond t (Some Unsettled) None) free

  -- power does not suffice
  pub halted : (p q : Power) (e : Refusal) → Err e ≡ spend_answer p → q ≡ spent p → (Err e ≡ answers rules (powered p) a) × (powered q ≡ becomes rules makes (powered p) a)
  halted p q e = by_tests p.dark p.left (eqb p.left 0) refl
    where
      by_tests : (dark : Bool) (left : ℕ) (z : Bool) → eqb left 0 ≡ z → Err e ≡ cond dark (Err Dark) (cond z (Err Dark) (Ok (tt {0})))
          → q ≡ cond dark (record { left = left; dark = dark }) (cond z (record { left = left; dark = true }) (record { left = left - 1; dark = false }))
          → (Err e ≡ answers rules (powered (record { left = left; dark = dark })) a) × (powered q ≡ becomes rules makes (powered (record { left = left; dark = dark })) a)
      by_tests true left z i answer after = (
        answer ∙ refused_answer rules makes (powered (record { left = left; dark = true })) a Dark refl,
        ap powered after ∙ refused_state rules makes (powered (record { left = left; dark = true })) a Dark refl,
      )
      by_tests false left true i answer after = (
        answer ∙ dark_answer rules makes (powered (record { left = left; dark = false })) a (allowed left) i,
        ap powered after ∙ dark_state rules makes (powered (record { left = left; dark = false })) a (allowed left) i,
      )
      by_tests false left false i answer after = let z : ◌≡◌ {A = ℕ} 0 1 = cc in absurd (omega arith)

  -- power suffices, and the device t has performed the act
  pub performed : (p q : Power) (u : Unit {0}) (t : Simulated Mark Value) → Ok u ≡ spend_answer p → q ≡ spent p
      → t.meaning.size ≡ size → t.meaning.dark ≡ q.dark → ((i : ℕ) → t.meaning.piece i ≡ makes i (piece i)) → t.left ≡ q.left
      → (Ok tt ≡ answers rules (powered p) a) × (t ≡ becomes rules makes (powered p) a)
  performed p q u t = by_tests p.dark p.left (eqb p.left 0) refl
    where
      by_tests : (dark : Bool) (left : ℕ) (z : Bool) → eqb left 0 ≡ z → Ok u ≡ cond dark (Err Dark) (cond z (Err Dark) (Ok (tt {0})))
          → q ≡ cond dark (record { left = left; dark = dark }) (cond z (record { left = left; dark = true }) (record { left = left - 1; dark = false }))
          → t.meaning.size ≡ size → t.meaning.dark ≡ q.dark → ((i : ℕ) → t.meaning.piece i ≡ makes i (piece i)) → t.left ≡ q.left
          → (Ok tt ≡ answers rules (powered (record { left = left; dark = dark })) a) × (t ≡ becomes rules makes (powered (record { left = left; dark = dark })) a)
      by_tests true left z i answer after s d h l = let z : ◌≡◌ {A = ℕ} 0 1 = cc in absurd (omega arith)
      by_tests false left true i answer after s d h l = let z : ◌≡◌ {A = ℕ} 0 1 = cc in absurd (omega arith)
      by_tests false left false i answer after s d h l = (
        performed_answer rules makes (powered (record { left = left; dark = false })) a (allowed left) i,
        same_state t (performed_by makes (powered (record { left = left; dark = false }))) s (d ∙ ap (λ x. x.dark) after) h (l ∙ ap (λ x. x.left) after)
            ∙ performed_state rules makes (powered (record { left = left; dark = false })) a (allowed left) i,
      )

either_back : {Mark Value : Type 0} (t : Bool) (c d : Piece Mark Value) → d ≡ settled (cond t (present_value c) (settled_value c)) → ComesBack c d
either_back true c d e = inr e
either_back false c d e = inl e

-- a simulated device comes back as every device may
pub restarted_by : {Mark Value : Type 0} (how : Comeback) (acts : ℕ) (s t : Simulated Mark Value) → t ≡ returned how acts s → Restarted s.meaning t.meaning
restarted_by how acts s t e = record {
  size = ap (λ x. x.meaning.size) e;
  power = ap (λ x. x.meaning.dark) e;
  pieces = λ i. either_back (takes_new how i) (s.meaning.piece i) (t.meaning.piece i) (ap (λ x. x.meaning.piece i) e);
}
