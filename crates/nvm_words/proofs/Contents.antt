-- What the acts do to the words and to which lines hold an unsettled one. Assumes nothing.
use Rattle.std.proofs.Common.{◌≡◌, ℕ, ◌+◌, ◌*◌, ◌/◌, ◌%◌, ◌<◌, Bool, true, false, cond, ◌||◌, eqb, List, length, get_or, set, Vec, sym, refl, ap, ◌∙◌, inl, inr, arith, eqb-true}
use Rattle.std.proofs.lemmas.Bool.{cases_eq}
use Rattle.std.proofs.lemmas.Bool.Decides.{nat_tests}
use Rattle.std.proofs.lemmas.List.{get_or-set_same, get_or-set_other}
use Rattle.std.specs.Vec.{with_items}
use Rattle.std.specs.declared.alloc.Global.{Global}
use Rattle.device.specs.Pieces.{settled, unsettled, settled_value, present_value, is_unsettled}
use Rattle.device.specs.Words.{Word, waiting, flushed, flushed_word, fenced_word, nvm_makes, Store, Flush}
use Rattle.simulated.specs.Lists.{member, inside}
use Rattle.simulated.proofs.Lent.{lent_at}
use Rattle.nvm_words.specs.declared.cell.Cell.{Cell}
use Rattle.nvm_words.specs.declared.cell.Cell.TheVariants.{Settled, Waiting}
use Rattle.nvm_words.specs.Cells.{cell_word, cells_word, is_unsettled_line, Steady, Within}
use Rattle.nvm_words.proofs.Any.{any_false, any_same, any_true}

-- words that are as unsettled as others in a line
pub same_line : (word new : ℕ → Word) (l : ℕ) → ((w : ℕ) → w / 8 ≡ l → is_unsettled (new w) ≡ is_unsettled (word w)) → is_unsettled_line new l ≡ is_unsettled_line word l
same_line word new l h = any_same _ _ 8 (λ k lt. h (8 * l + k) (omega arith))

-- a flush leaves each line as unsettled as it was
pub flush_lines : (old new : List Cell) (l : ℕ) → Within (8 * l) (8 * l + 8) (λ _. flushed_word) old new → (k : ℕ) → is_unsettled_line (cells_word new) k ≡ is_unsettled_line (cells_word old) k
flush_lines old new l h k = same_line (cells_word old) (cells_word new) k (λ w e. ap is_unsettled (h w) ∙ keeps (inside (8 * l) (8 * l + 8) w) (cells_word old w))
  where
    keeps : (t : Bool) (c : Word) → is_unsettled (cond t (flushed_word c) c) ≡ is_unsettled c
    keeps true (settled v) = refl
    keeps true (unsettled m s p) = refl
    keeps false c = refl

-- and nothing of one that holds no unsettled word
pub flush_rests : (cs : List Cell) (l : ℕ) → is_unsettled_line (cells_word cs) l ≡ false → (w : ℕ) → cells_word cs w ≡ nvm_makes (Flush l) w (cells_word cs w)
flush_rests cs l still w = by_test (eqb (w / 8) l) refl
  where
    rests : (c : Word) → is_unsettled c ≡ false → c ≡ flushed_word c
    rests (settled v) e = refl
    rests (unsettled m s p) e = let z : true ≡ false = e in cc

    by_test : (t : Bool) → eqb (w / 8) l ≡ t → cells_word cs w ≡ cond t (flushed_word (cells_word cs w)) (cells_word cs w)
    by_test true e =
        let is : 8 * l + w % 8 ≡ w = omega (arith, eqb-true (w / 8) l e) in
        rests (cells_word cs w) (ap (λ k. is_unsettled (cells_word cs k)) (sym is) ∙ any_false (λ k. is_unsettled (cells_word cs (8 * l + k))) 8 still (w % 8) (omega arith))
    by_test false e = refl

-- a store into the word x
module _ (cs : List Cell) (x u v : ℕ) (is : u ≡ settled_value (cells_word cs x)) (within : x < length cs) where
  pub stored_words : (w : ℕ) → cells_word (set cs x (Waiting v u)) w ≡ nvm_makes (Store x v) w (cells_word cs w)
  stored_words w = elim (cases_eq w x) [
    | inl e ↦ ap (λ k. cell_word (get_or (set cs x (Waiting v u)) k (Settled 0))) e ∙ ap cell_word (get_or-set_same cs x (Waiting v u) (Settled 0) within)
        ∙ ap (λ s. unsettled waiting s v) (is ∙ ap (λ k. settled_value (cells_word cs k)) (sym e))
        ∙ ap (λ t. cond t (unsettled waiting (settled_value (cells_word cs w)) v) (cells_word cs w)) (let q : true ≡ eqb w x = grind (arith, nat_tests) in q)
    | inr ne ↦ ap cell_word (get_or-set_other cs x w (Waiting v u) (Settled 0) ne)
        ∙ ap (λ t. cond t (unsettled waiting (settled_value (cells_word cs w)) v) (cells_word cs w)) (let q : false ≡ eqb w x = grind (arith, nat_tests) in q)
  ]

  -- the line of x is unsettled then, and each other as it was
  pub stored_lines : (l : ℕ) → is_unsettled_line (cells_word (set cs x (Waiting v u))) l ≡ eqb l (x / 8) || is_unsettled_line (cells_word cs) l
  stored_lines l = elim (cases_eq l (x / 8)) [
    | inl e ↦ any_true _ 8 (x % 8) (omega arith) (ap (λ n. is_unsettled (cells_word (set cs x (Waiting v u)) n)) (let q : 8 * l + x % 8 ≡ x = omega arith in q) ∙ ap (λ c. is_unsettled (cell_word c)) (get_or-set_same cs x (Waiting v u) (Settled 0) within))
        ∙ ap (λ t. t || is_unsettled_line (cells_word cs) l) (let q : true ≡ eqb l (x / 8) = grind (arith, nat_tests) in q)
    | inr ne ↦ same_line (cells_word cs) (cells_word (set cs x (Waiting v u))) l (λ w q. ap (λ c. is_unsettled (cell_word c)) (get_or-set_other cs x w (Waiting v u) (Settled 0) (λ e. ne (sym q ∙ ap (λ n. n / 8) e))))
        ∙ ap (λ t. t || is_unsettled_line (cells_word cs) l) (let q : false ≡ eqb l (x / 8) = grind (arith, nat_tests) in q)
  ]

-- what was noted of the listed lines, in a `Vec` that was lent as the slice `old`, which ended as `new`
pub lent_notes : (v : Vec Bool Global) (old new read : List Bool) (given ls : List ℕ) (lent cs : List Cell) → old ≡ v.items → length new ≡ length old → read ≡ (with_items v new).items → given ≡ ls → lent ≡ cs
    → ((l : ℕ) → member l given ≡ true → get_or new l false ≡ is_unsettled_line (cells_word lent) l) → (l : ℕ) → member l ls ≡ true → get_or read l false ≡ is_unsettled_line (cells_word cs) l
lent_notes v old new read given ls lent cs is long reads these cells h l m =
    ap (λ (xs : List Bool). get_or xs l false) reads ∙ lent_at false v old new is long l ∙ h l (ap (member l) these ∙ m) ∙ ap (λ (xs : List Cell). is_unsettled_line (cells_word xs) l) cells

pub fenced_steady : Steady (λ _. fenced_word)
fenced_steady w (settled v) = refl
fenced_steady w (unsettled waiting s p) = refl
fenced_steady w (unsettled flushed s p) = refl

-- what is settled rests
pub fenced_rests : (w : ℕ) (c : Word) → is_unsettled c ≡ false → fenced_word c ≡ c
fenced_rests w (settled v) e = refl
fenced_rests w (unsettled m s p) e = let z : true ≡ false = e in cc

-- a word that comes back is settled, at its present or at its settled value
pub back_steady : (new : ℕ → Bool) → Steady (λ w c. settled (cond (new w) (present_value c) (settled_value c)))
back_steady new w c = by_test (new w) (cond (new w) (present_value c) (settled_value c))
  where
    same : Bool → ℕ → Word
    same t v = settled (cond t v v)

    by_test : (t : Bool) (v : ℕ) → same t v ≡ settled v
    by_test true v = refl
    by_test false v = refl

pub back_rests : (new : ℕ → Bool) (w : ℕ) (c : Word) → is_unsettled c ≡ false → settled (cond (new w) (present_value c) (settled_value c)) ≡ c
back_rests new w (settled v) e = ap settled (by_test (new w))
  where
    by_test : (t : Bool) → cond t v v ≡ v
    by_test true = refl
    by_test false = refl
back_rests new w (unsettled m s p) e = let z : true ≡ false = e in cc
