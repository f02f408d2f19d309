use Rattle.std.proofs.Common.{◌≡◌, ℕ, ◌+◌, ◌<◌, Bool, true, false, ◌||◌, eqb, List, [], length, get_or, take, set, sym, refl, ap, ◌∙◌, inl, inr, arith}
use Rattle.std.proofs.lemmas.Bool.{cases_eq}
use Rattle.std.proofs.lemmas.Bool.Decides.{nat_tests}
use Rattle.std.proofs.lemmas.List.{get_or-set_same, get_or-set_other}
use Rattle.simulated.specs.Lists.{member}
use Rattle.simulated.proofs.Members.{no_true}
use Rattle.nvm_words.proofs.Lines.{member_take}
use Rattle.nvm_words.proofs.rows.note_lines.Goals as goal

none : (b : ℕ) (P : Type 0) → member b [] ≡ true → P
unfolding member
none b P e = no_true false refl e

-- one more line noted
more : (f : ℕ → Bool) (xs : List ℕ) (holds : List Bool) (i : ℕ) (v : Bool) → i < length xs → get_or xs i 0 < length holds → v ≡ f (get_or xs i 0)
    → ((b : ℕ) → member b (take i xs) ≡ true → get_or holds b false ≡ f b)
    → (b : ℕ) → member b (take (i + 1) xs) ≡ true → get_or (set holds (get_or xs i 0) v) b false ≡ f b
more f xs holds i v lt room is h b m = elim (cases_eq b (get_or xs i 0)) [
  | inl e ↦ ap (λ n. get_or (set holds (get_or xs i 0) v) n false) e ∙ get_or-set_same holds (get_or xs i 0) v false room ∙ is ∙ ap f (sym e)
  | inr ne ↦ get_or-set_other holds (get_or xs i 0) b v false ne ∙ h b (other (member b (take i xs)) (eqb b (get_or xs i 0)) (let q : eqb b (get_or xs i 0) ≡ false = grind (arith, nat_tests) in q) (sym (member_take b i xs lt) ∙ m))
]
  where
    other : (t s : Bool) → s ≡ false → t || s ≡ true → t ≡ true
    other true s e q = refl
    other false s e q = no_true s e q

pub loop-line-init : goal.loop-line-init
loop-line-init c = λ b e. none b _ e

pub loop-line-preserved : goal.loop-line-preserved
loop-line-preserved c =
    let step = c.loop-line in
    more _ c.args.lines.now step.holds step.line-index c.any_unsettled.result (omega arith) (omega (arith, c.requires.room step.line-index (omega arith))) c.any_unsettled.ensures step.invariant
