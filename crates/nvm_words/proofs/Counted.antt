-- The lines of lists that words are made of. Assumes nothing.
use Rattle.std.proofs.Common.{◌≡◌, ℕ, zero, suc, ◌+◌, ◌*◌, ◌<◌, ◌≤◌, ◌⊎◌, Bool, true, false, cond, ◌||◌, eqb, ltb, List, [], ◌∷◌, ◌++◌, length, replicate, filter, sym, refl, ap, ◌∙◌, inl, inr, append-nil, arith}
use Rattle.std.specs.List.{range_with_len}
use Rattle.std.proofs.lemmas.Bool.{cases_lt}
use Rattle.std.proofs.lemmas.Bool.Decides.{nat_tests}
use Rattle.std.proofs.lemmas.List.{get_or_past, get_or-replicate, length-replicate}
use Rattle.std.proofs.lemmas.List.Elements.{filter-append}
use Rattle.device.specs.Pieces.{settled, is_unsettled}
use Rattle.device.specs.Words.{Word}
use Rattle.simulated.specs.Lists.{member}
use Rattle.simulated.specs.Listing.{with_line}
use Rattle.simulated.proofs.Members.{member_push, member_kept}
use Rattle.nvm_words.specs.declared.cell.Cell.{Cell}
use Rattle.nvm_words.specs.declared.cell.Cell.TheVariants.{Settled}
use Rattle.nvm_words.specs.declared.mark.Mark.{Mark}
use Rattle.nvm_words.specs.Marks.{words_in}
use Rattle.nvm_words.specs.Cells.{cell_word, cells_word, is_unsettled_line}
use Rattle.nvm_words.specs.Made.{units_in, made_word}
use Rattle.nvm_words.proofs.Any.{any_none, any_same}
use Rattle.nvm_words.proofs.Listed.{kept_same}

counting_suc : (a n : ℕ) → range_with_len a (suc n) ≡ range_with_len a n ++ (a + n) ∷ []
counting_suc a zero = ap (λ x. x ∷ []) (let q : a ≡ a + 0 = omega arith in q)
counting_suc a (suc n) = ap (λ xs. a ∷ xs) (counting_suc (a + 1) n ∙ ap (λ x. range_with_len (a + 1) n ++ x ∷ []) (let q : (a + 1) + n ≡ a + suc n = omega arith in q))

pub counting_more : (n : ℕ) → range_with_len 0 (n + 1) ≡ range_with_len 0 n ++ n ∷ []
counting_more n = ap (range_with_len 0) (let q : n + 1 ≡ suc n = omega arith in q) ∙ counting_suc 0 n ∙ ap (λ x. range_with_len 0 n ++ x ∷ []) (let q : 0 + n ≡ n = omega arith in q)

pub member_counting : (b n : ℕ) → member b (range_with_len 0 n) ≡ ltb b n
unfolding member
member_counting b zero = grind (arith, nat_tests)
member_counting b (suc n) =
    ap (λ xs. member b xs) (counting_suc 0 n) ∙ member_push b (0 + n) (range_with_len 0 n)
    ∙ ap (λ t. t || eqb b (0 + n)) (member_counting b n) ∙ (let q : ltb b n || eqb b (0 + n) ≡ ltb b (suc n) = grind (arith, nat_tests) in q)

-- one more line of those that pass
module _ (p : ℕ → Bool) (n : ℕ) (ls : List ℕ) (is : ls ≡ filter p (range_with_len 0 n)) where
  kept_step : filter p (range_with_len 0 (n + 1)) ≡ filter p (range_with_len 0 n) ++ cond (p n) (n ∷ []) []
  kept_step = ap (filter p) (counting_more n) ∙ filter-append p (range_with_len 0 n) (n ∷ [])

  pub listed_yes : p n ≡ true → with_line ls n ≡ filter p (range_with_len 0 (n + 1))
  listed_yes passes =
      let new : member n ls ≡ false = ap (member n) is ∙ member_kept p n (range_with_len 0 n) ∙ ap (λ t. cond t (p n) false) (member_counting n n ∙ (let q : ltb n n ≡ false = grind (arith, nat_tests) in q)) in
      ap (λ t. cond t ls (ls ++ n ∷ [])) new ∙ ap (λ xs. xs ++ n ∷ []) is ∙ sym (kept_step ∙ ap (λ t. filter p (range_with_len 0 n) ++ cond t (n ∷ []) []) passes)

  pub listed_no : p n ≡ false → ls ≡ filter p (range_with_len 0 (n + 1))
  listed_no fails = is ∙ sym (kept_step ∙ ap (λ t. filter p (range_with_len 0 n) ++ cond t (n ∷ []) []) fails ∙ append-nil (filter p (range_with_len 0 n)))

-- the lines of some cells that hold an unsettled word
pub made_exact : (cs : List Cell) (ls : List ℕ) (n : ℕ) → length cs ≤ 8 * n → ls ≡ filter (is_unsettled_line (cells_word cs)) (range_with_len 0 n) → (l : ℕ) → member l ls ≡ is_unsettled_line (cells_word cs) l
made_exact cs ls n long is l =
    ap (member l) is ∙ member_kept (is_unsettled_line (cells_word cs)) l (range_with_len 0 n) ∙ ap (λ t. cond t (is_unsettled_line (cells_word cs) l) false) (member_counting l n)
    ∙ by_test (ltb l n) refl
  where
    by_test : (t : Bool) → ltb l n ≡ t → cond t (is_unsettled_line (cells_word cs) l) false ≡ is_unsettled_line (cells_word cs) l
    by_test true e = refl
    by_test false e = let far : n ≤ l = grind (arith, nat_tests) in sym (any_none _ 8 (λ k lt. ap (λ c. is_unsettled (cell_word c)) (get_or_past cs (8 * l + k) (Settled 0) (omega arith))))

-- the lines of words that are those of others
pub same_lines : (word new : ℕ → Word) (xs : List ℕ) → ((w : ℕ) → new w ≡ word w) → filter (is_unsettled_line new) xs ≡ filter (is_unsettled_line word) xs
same_lines word new xs h = kept_same _ _ xs (λ l m. any_same _ _ 8 (λ k lt. ap is_unsettled (h (8 * l + k))))

-- the words of cells that were filled from three lists
pub made_words : (ss ps : List ℕ) (ms : List Mark) (cs : List Cell) (units : ℕ) → units ≡ units_in ss ps ms → length cs ≡ 32 * units → ((w : ℕ) → w < length cs → cells_word cs w ≡ words_in ss ps ms w)
    → (w : ℕ) → cells_word cs w ≡ made_word ss ps ms w
made_words ss ps ms cs units size long filled w = by_test (cases_lt w (length cs)) ∙ ap (λ n. cond (ltb w (32 * n)) (words_in ss ps ms w) (settled 0)) size
  where
    by_test : (w < length cs) ⊎ (length cs ≤ w) → cells_word cs w ≡ cond (ltb w (32 * units)) (words_in ss ps ms w) (settled 0)
    by_test (inl lt) = filled w lt ∙ ap (λ t. cond t (words_in ss ps ms w) (settled 0)) (let q : true ≡ ltb w (32 * units) = grind (arith, nat_tests) in q)
    by_test (inr far) = ap cell_word (get_or_past cs w (Settled 0) far) ∙ ap (λ t. cond t (words_in ss ps ms w) (settled 0)) (let q : false ≡ ltb w (32 * units) = grind (arith, nat_tests) in q)

-- cells of zeros
pub zero_words : (k w : ℕ) → cells_word (replicate k (Settled 0)) w ≡ settled 0
zero_words k w = ap cell_word (elim (cases_lt w k) [ inl lt ↦ get_or-replicate k w (Settled 0) (Settled 0) lt | inr far ↦ get_or_past (replicate k (Settled 0)) w (Settled 0) (simp length-replicate far) ])

kept_none : (p : ℕ → Bool) (xs : List ℕ) → ((b : ℕ) → p b ≡ false) → filter p xs ≡ []
kept_none p [] h = refl
kept_none p (x ∷ xs) h = ap (λ t. cond t (x ∷ filter p xs) (filter p xs)) (h x) ∙ kept_none p xs h

pub zero_lines : (word : ℕ → Word) → ((w : ℕ) → word w ≡ settled 0) → (xs : List ℕ) → filter (is_unsettled_line word) xs ≡ []
zero_lines word h xs = kept_none (is_unsettled_line word) xs (λ l. any_none _ 8 (λ k lt. ap is_unsettled (h (8 * l + k))))
