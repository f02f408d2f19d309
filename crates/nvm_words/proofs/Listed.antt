-- A list of exactly the lines that hold an unsettled word. Assumes nothing.
use Rattle.std.proofs.Common.{◌≡◌, ℕ, ◌+◌, ◌*◌, ◌/◌, ◌%◌, ◌<◌, Bool, true, false, cond, not, ◌||◌, eqb, List, [], ◌∷◌, ◌++◌, length, get_or, filter, sym, refl, ap, ◌∙◌, inl, inr, not-suc-le-zero, arith, eq-eqb, eqb-true}
use Rattle.std.proofs.lemmas.Bool.{cases_eq, and_parts, not-true, ne_eqb}
use Rattle.std.proofs.lemmas.Bool.Decides.{nat_tests}
use Rattle.device.specs.Pieces.{settled, present_value, is_unsettled}
use Rattle.device.specs.Words.{Word}
use Rattle.simulated.specs.Lists.{member, distinct, inside}
use Rattle.simulated.specs.Listing.{with_line, without_first}
use Rattle.simulated.proofs.Members.{member_push, member_kept, or_true, or_false}
use Rattle.nvm_words.specs.declared.cell.Cell.{Cell}
use Rattle.nvm_words.specs.Cells.{cells_word, is_unsettled_line, Within, Among}
use Rattle.nvm_words.proofs.Any.{any_false, any_none}
use Rattle.nvm_words.proofs.Contents.{same_line}

-- a listed line besides
pub member_with : (l b : ℕ) (ls : List ℕ) → member l (with_line ls b) ≡ (eqb l b || member l ls)
member_with l b ls = by_test (member b ls) refl
  where
    have : (t : Bool) → eqb l b ≡ t → member b ls ≡ true → member l ls ≡ (t || member l ls)
    have true e h = ap (λ k. member k ls) (eqb-true l b e) ∙ h
    have false e h = refl

    swap : (s t : Bool) → s || t ≡ t || s
    swap true t = sym (or_true t)
    swap false t = sym (or_false t)

    by_test : (t : Bool) → member b ls ≡ t → member l (cond t ls (ls ++ b ∷ [])) ≡ (eqb l b || member l ls)
    by_test true h = have (eqb l b) refl h
    by_test false h = member_push l b ls ∙ swap (member l ls) (eqb l b)

-- two filters that agree on a list
pub kept_same : (p q : ℕ → Bool) (xs : List ℕ) → ((b : ℕ) → member b xs ≡ true → p b ≡ q b) → filter p xs ≡ filter q xs
unfolding member
kept_same p q [] h = refl
kept_same p q (x ∷ xs) h =
    ap (λ t. cond t (x ∷ filter p xs) (filter p xs)) (h x (ap (λ t. t || member x xs) (eq-eqb x x refl)))
    ∙ ap (λ ys. cond (q x) (x ∷ ys) ys) (kept_same p q xs (λ b m. h b (ap (λ t. eqb b x || t) m ∙ or_true (eqb b x))))

-- `ls` are exactly the lines that hold an unsettled word
module _ (cs : List Cell) (ls : List ℕ) (exact : (l : ℕ) → member l ls ≡ is_unsettled_line (cells_word cs) l) (f : ℕ → Word → Word) (new : List Cell) (changed : Among ls f cs new) where
  unlisted : (w : ℕ) → member (w / 8) ls ≡ false → is_unsettled (cells_word cs w) ≡ false
  unlisted w e =
      ap (λ n. is_unsettled (cells_word cs n)) (let q : w ≡ 8 * (w / 8) + w % 8 = omega arith in q)
      ∙ any_false (λ k. is_unsettled (cells_word cs (8 * (w / 8) + k))) 8 (sym (exact (w / 8)) ∙ e) (w % 8) (omega arith)

  -- a change in all listed lines is a change of all words, if what is settled rests
  pub all_changed : ((w : ℕ) (c : Word) → is_unsettled c ≡ false → f w c ≡ c) → (w : ℕ) → cells_word new w ≡ f w (cells_word cs w)
  all_changed rests w = changed w ∙ by_test (member (w / 8) ls) refl
    where
      by_test : (t : Bool) → member (w / 8) ls ≡ t → cond t (f w (cells_word cs w)) (cells_word cs w) ≡ f w (cells_word cs w)
      by_test true e = refl
      by_test false e = sym (rests w (cells_word cs w) (unlisted w e))

  -- then the lines that still hold an unsettled word are those that were noted
  pub kept_lines : (p : ℕ → Bool) → ((l : ℕ) → member l ls ≡ true → p l ≡ is_unsettled_line (cells_word new) l) → (l : ℕ) → member l (filter p ls) ≡ is_unsettled_line (cells_word new) l
  kept_lines p noted l = member_kept p l ls ∙ by_test (member l ls) refl
    where
      by_test : (t : Bool) → member l ls ≡ t → cond t (p l) false ≡ is_unsettled_line (cells_word new) l
      by_test true e = noted l e
      by_test false e =
          sym e ∙ exact l
          ∙ sym (same_line (cells_word cs) (cells_word new) l (λ w is. ap is_unsettled (changed w ∙ ap (λ t. cond t (f w (cells_word cs w)) (cells_word cs w)) (ap (λ k. member k ls) is ∙ e))))

-- no line is unsettled once every word is settled
pub none_listed : (word : ℕ → Word) → ((w : ℕ) → is_unsettled (word w) ≡ false) → (l : ℕ) → member l [] ≡ is_unsettled_line word l
unfolding member
none_listed word h l = sym (any_none _ 8 (λ k lt. h (8 * l + k)))

-- once the first line is settled, the others are those that hold an unsettled word
pub settled_lines : (cs new : List Cell) (ls : List ℕ) → ((l : ℕ) → member l ls ≡ is_unsettled_line (cells_word cs) l) → distinct ls ≡ true → 0 < length ls
    → Within (8 * get_or ls 0 0) (8 * get_or ls 0 0 + 8) (λ _ c. settled (present_value c)) cs new → (l : ℕ) → member l (without_first ls) ≡ is_unsettled_line (cells_word new) l
unfolding member distinct
settled_lines cs new [] exact once some h l = absurd (not-suc-le-zero some)
settled_lines cs new (x ∷ xs) exact once some h l =
    let (apart, rest) = and_parts (not (member x xs)) (distinct xs) once in
    elim (cases_eq l x) [
      | inl e ↦ ap (λ k. member k xs) e ∙ not-true (member x xs) apart
          ∙ sym (any_none _ 8 (λ k lt. ap is_unsettled (h (8 * l + k) ∙ ap (λ t. cond t (settled (present_value (cells_word cs (8 * l + k)))) (cells_word cs (8 * l + k))) (let q : inside (8 * x) (8 * x + 8) (8 * l + k) ≡ true = grind (arith, nat_tests) in q))))
      | inr ne ↦ ap (λ t. t || member l xs) (sym (ne_eqb l x ne)) ∙ exact l
          ∙ sym (same_line (cells_word cs) (cells_word new) l (λ w is. ap is_unsettled (h w ∙ ap (λ t. cond t (settled (present_value (cells_word cs w))) (cells_word cs w)) (let q : inside (8 * x) (8 * x + 8) w ≡ false = grind (arith, nat_tests) in q))))
    ]
