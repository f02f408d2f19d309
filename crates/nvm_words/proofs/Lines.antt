-- Rows that are changed line by line. Assumes nothing.
use Rattle.std.proofs.Common.{rules, ◌≡◌, ℕ, ◌+◌, ◌-◌, ◌*◌, ◌/◌, ◌<◌, ◌≤◌, ◌⊎◌, Bool, true, false, cond, ◌||◌, eqb, List, length, get_or, take, drop, set, Vec, sym, refl, ap, ◌∙◌, inl, inr, arith}
use Rattle.std.proofs.lemmas.Bool.{cases_eq, cases_lt}
use Rattle.std.proofs.lemmas.Bool.Decides.{nat_tests}
use Rattle.std.proofs.lemmas.List.{places, take_more, take_all, get_or-set_same, get_or-set_other, get_or-take, get_or-drop, length-take, length-drop}
use borrow.Rule.Slice.PartMut.{put_mid}
use Rattle.std.specs.Vec.{with_items}
use Rattle.std.specs.declared.alloc.Global.{Global}
use Rattle.device.specs.Words.{Word}
use Rattle.simulated.specs.Lists.{member, inside}
use Rattle.simulated.proofs.Lent.{lent_at}
use Rattle.simulated.proofs.Members.{member_push}
use Rattle.nvm_words.specs.declared.cell.Cell.{Cell}
use Rattle.nvm_words.specs.declared.cell.Cell.TheVariants.{Settled}
use Rattle.nvm_words.specs.Cells.{cell_word, cells_word, Steady, Within, Among}

-- the words of a line
pub line_words : (w l : ℕ) → inside (8 * l) (8 * l + 8) w ≡ eqb (w / 8) l
line_words w l = grind (arith, nat_tests)

-- one more of a list's beginning
pub member_take : (b i : ℕ) (xs : List ℕ) → i < length xs → member b (take (i + 1) xs) ≡ (member b (take i xs) || eqb b (get_or xs i 0))
member_take b i xs lt = ap (member b) (take_more xs i 0 lt) ∙ member_push b (get_or xs i 0) (take i xs)

-- a line that was changed
pub within_line : (f : ℕ → Word → Word) (old new : List Cell) (l : ℕ) → Within (8 * l) (8 * l + 8) f old new
    → (w : ℕ) → cells_word new w ≡ cond (eqb (w / 8) l) (f w (cells_word old w)) (cells_word old w)
within_line f old new l h w = h w ∙ ap (λ t. cond t (f w (cells_word old w)) (cells_word old w)) (line_words w l)

-- one more word of a line
pub within_more : (f : ℕ → Word → Word) (old mid : List Cell) (from i : ℕ) (r : Cell) → from ≤ i → i < length mid → Within from i f old mid → cell_word r ≡ f i (cells_word mid i) → Within from (i + 1) f old (set mid i r)
within_more f old mid from i r le lt before is w = elim (cases_eq w i) [
  | inl e ↦ ap (λ k. cell_word (get_or (set mid i r) k (Settled 0))) e ∙ ap cell_word (get_or-set_same mid i r (Settled 0) lt) ∙ is
      ∙ ap (f i) (before i ∙ ap (λ t. cond t (f i (cells_word old i)) (cells_word old i)) (let q : inside from i i ≡ false = grind (arith, nat_tests) in q))
      ∙ ap (λ k. f k (cells_word old k)) (sym e)
      ∙ ap (λ t. cond t (f w (cells_word old w)) (cells_word old w)) (let q : true ≡ inside from (i + 1) w = grind (arith, nat_tests) in q)
  | inr ne ↦ ap cell_word (get_or-set_other mid i w r (Settled 0) ne) ∙ before w
      ∙ ap (λ t. cond t (f w (cells_word old w)) (cells_word old w)) (let q : inside from i w ≡ inside from (i + 1) w = grind (arith, nat_tests) in q)
]

-- a row in which k elements were put back
module _ {X : Type 0} (xs part : List X) (from k : ℕ) (d : X) (within : from + k ≤ length xs) (long : length part ≡ k) where
  put_before : (w : ℕ) → w < from → get_or (put_mid from k xs part) w d ≡ get_or xs w d
  put_before w lt = search (rules, places)

  put_at : (i : ℕ) → i < k → get_or (put_mid from k xs part) (from + i) d ≡ get_or part i d
  put_at i lt = search (rules, places)

  put_behind : (w : ℕ) → from + k ≤ w → get_or (put_mid from k xs part) w d ≡ get_or xs w d
  put_behind w far = search (rules, places)

-- a line that was taken out, changed and put back
module _ (f : ℕ → Word → Word) (cs part : List Cell) (from k n : ℕ) (eight : k ≡ 8) (within : from + 8 ≤ length cs) (same : length part ≡ length (take k (drop from cs))) (all : length (take k (drop from cs)) ≤ n)
    (changed : Within 0 n (λ i. f (from + i)) (take k (drop from cs)) part) where
  room : from + k ≤ length cs
  room = omega (arith, eight, within)

  long : length part ≡ k
  long = omega (arith, same, length-take k (drop from cs), length-drop from cs, room)

  word_put : (i : ℕ) → i < k → cells_word (put_mid from k cs part) (from + i) ≡ f (from + i) (cells_word cs (from + i))
  word_put i lt =
      let taken = take k (drop from cs) in
      let passed : i < n = omega (arith, lt, long, same, all) in
      ap cell_word (put_at cs part from k (Settled 0) room long i lt) ∙ changed i
      ∙ ap (λ t. cond t (f (from + i) (cells_word taken i)) (cells_word taken i)) (let q : inside 0 n i ≡ true = grind (arith, nat_tests) in q)
      ∙ ap (λ c. f (from + i) (cell_word c)) (get_or-take k (drop from cs) i (Settled 0) lt ∙ get_or-drop from cs i (Settled 0))

  pub line_put : Within from (from + 8) f cs (put_mid from k cs part)
  line_put w = by_place (cases_lt w from) (cases_lt w (from + 8))
    where
      other : inside from (from + 8) w ≡ false → cells_word cs w ≡ cond (inside from (from + 8) w) (f w (cells_word cs w)) (cells_word cs w)
      other e = ap (λ t. cond t (f w (cells_word cs w)) (cells_word cs w)) (sym e)

      by_place : (w < from) ⊎ (from ≤ w) → (w < from + 8) ⊎ (from + 8 ≤ w) → cells_word (put_mid from k cs part) w ≡ cond (inside from (from + 8) w) (f w (cells_word cs w)) (cells_word cs w)
      by_place (inl lt) q = ap cell_word (put_before cs part from k (Settled 0) room long w lt) ∙ other (grind (arith, nat_tests))
      by_place (inr ge) (inl lt) =
          let is : from + (w - from) ≡ w = omega (arith, ge) in
          ap (cells_word (put_mid from k cs part)) (sym is) ∙ word_put (w - from) (omega (arith, ge, lt, eight)) ∙ ap (λ i. f i (cells_word cs i)) is
          ∙ ap (λ t. cond t (f w (cells_word cs w)) (cells_word cs w)) (let q : true ≡ inside from (from + 8) w = grind (arith, nat_tests) in q)
      by_place (inr ge) (inr far) = ap cell_word (put_behind cs part from k (Settled 0) room long w (omega (arith, far, eight))) ∙ other (grind (arith, nat_tests))

module _ (f : ℕ → Word → Word) (xs : List ℕ) (old : List Cell) where
  pub among_none : Among (take 0 xs) f old old
  unfolding member
  among_none w = refl

  pub among_more : (mid new : List Cell) (i : ℕ) → i < length xs → Steady f → Among (take i xs) f old mid → Within (8 * get_or xs i 0) (8 * get_or xs i 0 + 8) f mid new → Among (take (i + 1) xs) f old new
  among_more mid new i lt same before step w =
      within_line f mid new (get_or xs i 0) step w
      ∙ ap (λ x. cond (eqb (w / 8) (get_or xs i 0)) (f w x) x) (before w)
      ∙ by_test (eqb (w / 8) (get_or xs i 0)) (member (w / 8) (take i xs)) (cells_word old w)
      ∙ ap (λ t. cond t (f w (cells_word old w)) (cells_word old w)) (sym (member_take (w / 8) i xs lt))
    where
      by_test : (s t : Bool) (x : Word) → cond s (f w (cond t (f w x) x)) (cond t (f w x) x) ≡ cond (t || s) (f w x) x
      by_test true true x = same w x
      by_test true false x = refl
      by_test false true x = refl
      by_test false false x = refl

  pub among_all : (new : List Cell) (i : ℕ) → length xs ≤ i → Among (take i xs) f old new → Among xs f old new
  among_all new i le h w = h w ∙ ap (λ ls. cond (member (w / 8) ls) (f w (cells_word old w)) (cells_word old w)) (take_all i xs le)

-- a `Vec` that was lent as the slice `old`, which ended as `new`
module _ (v : Vec Cell Global) (old new : List Cell) (is : old ≡ v.items) (long : length new ≡ length old) (f : ℕ → Word → Word) where
  pub lent_line : (l : ℕ) → Within (8 * l) (8 * l + 8) f old new → Within (8 * l) (8 * l + 8) f v.items (with_items v new).items
  lent_line l h w = ap cell_word (lent_at (Settled 0) v old new is long w) ∙ h w ∙ ap (λ (cs : List Cell). cond (inside (8 * l) (8 * l + 8) w) (f w (cells_word cs w)) (cells_word cs w)) is

  pub lent_lines : (given ls : List ℕ) → given ≡ ls → Among given f old new → Among ls f v.items (with_items v new).items
  lent_lines given ls these h w =
      ap cell_word (lent_at (Settled 0) v old new is long w) ∙ h w
      ∙ ap (λ (cs : List Cell). cond (member (w / 8) given) (f w (cells_word cs w)) (cells_word cs w)) is
      ∙ ap (λ (ks : List ℕ). cond (member (w / 8) ks) (f w (cells_word v.items w)) (cells_word v.items w)) these
