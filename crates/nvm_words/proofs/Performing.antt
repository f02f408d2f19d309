-- An act that was admitted and is then performed. Assumes nothing.
use Rattle.std.proofs.Common.{◌≡◌, ℕ, ◌-◌, ◌*◌, ◌<◌, Bool, true, false, cond, eqb, leb, List, IsErrAnd, Some, None, Ok, Err, Option, Result, sym, refl, ap, ◌∙◌, arith}
use Rattle.std.proofs.lemmas.Bool.Decides.{nat_tests}
use Rattle.refusal.specs.declared.reason.Refusal.{Refusal}
use Rattle.refusal.specs.declared.reason.Refusal.TheVariants.{Dark, Beyond, Unsettled}
use Rattle.device.specs.Pieces.{is_unsettled}
use Rattle.device.specs.Devices.{refusal_of}
use Rattle.device.specs.Words.{Word, NvmAct, Store, nvm_rules}
use Rattle.simulated.specs.declared.supply.Supply.{Supply}
use Rattle.simulated.specs.Power.{spent}
use Rattle.simulated.specs.Natures.{answers, becomes, performed_by}
use Rattle.simulated.proofs.Members.{no_true}
use Rattle.simulated.proofs.Laws.{same_state, performed_answer, performed_state}
use Rattle.nvm_words.specs.declared.words.Words.{Words}
use Rattle.nvm_words.specs.Meant.{meant, simulated_nvm, Became}
use Rattle.nvm_words.specs.Acts.{Passed}

-- what is not refused has power
pub lit : (n : Words) (a : NvmAct) → refusal_of nvm_rules (meant n) a ≡ None → n.supply.dark ≡ false
lit n a none = by_test n.supply.dark _ none
  where
    by_test : (t : Bool) (rest : Option Refusal) → cond t (Some Dark) rest ≡ None → t ≡ false
    by_test true rest e = let z : ◌≡◌ {A = ℕ} 0 1 = cc in absurd (omega arith)
    by_test false rest e = refl

-- what is left of the power after an act that could be paid for
paid : (p : Supply) → p.dark ≡ false → eqb p.left 0 ≡ false → spent p ≡ record { left = p.left - 1; dark = false }
paid p power left = by_tests p.dark (eqb p.left 0) power left
  where
    by_tests : (t z : Bool) → t ≡ false → z ≡ false
        → cond {A = Supply} t p (cond z (record { left = p.left; dark = true }) (record { left = p.left - 1; dark = false })) ≡ record { left = p.left - 1; dark = false }
    by_tests true z e i = no_true true e refl
    by_tests false true e i = no_true true i refl
    by_tests false false e i = refl

module _ (n n₁ n₂ : Words) (a : NvmAct) (makes : ℕ → Word → Word) (ls : List ℕ) (passed : Passed a n n₁) (became : Became n₁.supply makes ls n₁ n₂) where
  pub performed_ok : Ok tt ≡ answers nvm_rules (simulated_nvm n) a
  performed_ok = performed_answer nvm_rules makes (simulated_nvm n) a passed.allowed passed.affordable

  pub performed_words : (w : ℕ) → (meant n₂).piece w ≡ makes w ((meant n).piece w)
  performed_words w = became.words w ∙ ap (makes w) (passed.paid.words w)

  pub performed : simulated_nvm n₂ ≡ becomes nvm_rules makes (simulated_nvm n) a
  performed =
      let power = lit n a passed.allowed in
      same_state (simulated_nvm n₂) (performed_by makes (simulated_nvm n)) (became.size ∙ passed.paid.size)
      (ap (λ (p : Supply). p.dark) (became.power ∙ passed.paid.power) ∙ ap (λ (p : Supply). p.dark) (paid n.supply power passed.affordable) ∙ sym power)
      performed_words
      (ap (λ (p : Supply). p.left) (became.power ∙ passed.paid.power) ∙ ap (λ (p : Supply). p.left) (paid n.supply power passed.affordable))
      ∙ performed_state nvm_rules makes (simulated_nvm n) a passed.allowed passed.affordable

-- an admitted store is within the size and meets a settled word
pub admitted_store : (n : Words) (x v : ℕ) → refusal_of nvm_rules (meant n) (Store x v) ≡ None → (x < 32 * n.units) × (is_unsettled ((meant n).piece x) ≡ false)
admitted_store n x v none =
    let (near, still) = by_tests n.supply.dark (leb (32 * n.units) x) (is_unsettled ((meant n).piece x)) none in
    ((let h : leb (32 * n.units) x ≡ false = near in grind (arith, nat_tests)), still)
  where
    by_tests : (t b u : Bool) → cond t (Some Dark) (cond b (Some Beyond) (cond u (Some Unsettled) None)) ≡ None → (b ≡ false) × (u ≡ false)
    by_tests true b u e = let z : ◌≡◌ {A = ℕ} 0 1 = cc in absurd (omega arith)
    by_tests false true u e = let z : ◌≡◌ {A = ℕ} 0 1 = cc in absurd (omega arith)
    by_tests false false true e = let z : ◌≡◌ {A = ℕ} 0 1 = cc in absurd (omega arith)
    by_tests false false false e = (refl, refl)

-- one change after another
pub became_then : (n n₁ n₂ : Words) (p q : Supply) (f g : ℕ → Word → Word) (ls ks : List ℕ) → Became p f ls n n₁ → Became q g ks n₁ n₂ → Became q (λ w c. g w (f w c)) ks n n₂
became_then n n₁ n₂ p q f g ls ks one two = record { size = two.size ∙ one.size; power = two.power; words = λ w. two.words w ∙ ap (g w) (one.words w); lines = two.lines }

-- what is done alike
pub became_like : (n n₁ : Words) (p q : Supply) (f g : ℕ → Word → Word) (ls ks : List ℕ) → p ≡ q → ((w : ℕ) (c : Word) → f w c ≡ g w c) → ls ≡ ks → Became p f ls n n₁ → Became q g ks n n₁
became_like n n₁ p q f g ls ks power words lines one = record { size = one.size; power = one.power ∙ power; words = λ w. one.words w ∙ words w ((meant n).piece w); lines = one.lines ∙ lines }

-- the exit of a `?`
pub broke : (r : Result (Unit {0}) Refusal) (e : Refusal) → IsErrAnd r (λ y. y ≡ e) → r ≡ Err e
broke (Ok u) e h = absurd h
broke (Err y) e h = ap Err h
