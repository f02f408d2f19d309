-- One step of the scan over the numbers of a TxnInfo. Assumes nothing.
use Rattle.std.proofs.Common.{◌≡◌, ℕ, ◌+◌, ◌*◌, ◌/◌, ◌<◌, ◌≤◌, Bool, true, false, not, ◌&&◌, eqb, ltb, List, [], ◌∷◌, length, get_or, drop, sym, refl, ap, ◌∙◌, arith}
use Rattle.std.specs.List.{list_any}
use Rattle.std.proofs.lemmas.Bool.Decides.{nat_tests}
use Rattle.std.proofs.lemmas.List.{at_drop_more, at_drop_all}
use Rattle.ringlaws.specs.Layout.{records_of}
use Rattle.ringlaws.specs.TxnInfo.{member, distinct, all_below, good_numbers}

pub member_any : (x : ℕ) (xs : List ℕ) → list_any (λ y. eqb y x) xs ≡ member x xs
unfolding member
member_any x [] = refl
member_any x (y ∷ ys) = let e : eqb y x ≡ eqb x y = grind (arith, nat_tests) in rw (e, member_any x ys) refl

module _ (xs : List ℕ) (i : ℕ) where
  -- a number is a record of the disk and does not come again
  fine : ℕ → Bool
  fine B = ltb (get_or xs i 0) (records_of B) && not (member (get_or xs i 0) (drop (i + 1) xs))

  numbers_step : (B : ℕ) → i < length xs → good_numbers B (drop i xs) ≡ (fine B && good_numbers B (drop (i + 1) xs))
  unfolding all_below distinct fine
  numbers_step B lt =
      let e : good_numbers B (drop i xs)
      ≡ ((ltb (get_or xs i 0) (records_of B) && all_below (records_of B) (drop (i + 1) xs)) && (not (member (get_or xs i 0) (drop (i + 1) xs)) && distinct (drop (i + 1) xs))) =
      at_drop_more (good_numbers B) xs i 0 lt in
      e ∙ mixed (ltb (get_or xs i 0) (records_of B)) (all_below (records_of B) (drop (i + 1) xs)) (not (member (get_or xs i 0) (drop (i + 1) xs))) (distinct (drop (i + 1) xs))
    where
      mixed : (p q r s : Bool) → ((p && q) && (r && s)) ≡ ((p && r) && (q && s))
      mixed true true true s = refl
      mixed true true false s = refl
      mixed true false true s = refl
      mixed true false false s = refl
      mixed false q r s = refl

  pub numbers_on : (B : ℕ) → i < length xs → get_or xs i 0 / 16 < B → member (get_or xs i 0) (drop (i + 1) xs) ≡ false
      → good_numbers B (drop i xs) ≡ good_numbers B xs → good_numbers B (drop (i + 1) xs) ≡ good_numbers B xs
  unfolding fine
  numbers_on B lt b m inv =
      let e = numbers_step B lt in
      let l : get_or xs i 0 < 16 * B = omega arith in
      let f : (ltb (get_or xs i 0) (records_of B) && not (member (get_or xs i 0) (drop (i + 1) xs))) ≡ true = grind (arith, nat_tests) in
      sym (ap (λ x. x && good_numbers B (drop (i + 1) xs)) f) ∙ sym e ∙ inv

  pub numbers_high : (B : ℕ) → i < length xs → B ≤ get_or xs i 0 / 16 → good_numbers B (drop i xs) ≡ good_numbers B xs → false ≡ good_numbers B xs
  unfolding fine
  numbers_high B lt b inv =
      let e = numbers_step B lt in
      let l : 16 * B ≤ get_or xs i 0 = omega arith in
      let f : (ltb (get_or xs i 0) (records_of B) && not (member (get_or xs i 0) (drop (i + 1) xs))) ≡ false = grind (arith, nat_tests) in
      sym (ap (λ x. x && good_numbers B (drop (i + 1) xs)) f) ∙ sym e ∙ inv

  pub numbers_again : (B : ℕ) → i < length xs → member (get_or xs i 0) (drop (i + 1) xs) ≡ true → good_numbers B (drop i xs) ≡ good_numbers B xs → false ≡ good_numbers B xs
  unfolding fine
  numbers_again B lt m inv =
      let e = numbers_step B lt in
      let f : (ltb (get_or xs i 0) (records_of B) && not (member (get_or xs i 0) (drop (i + 1) xs))) ≡ false = grind (arith, nat_tests) in
      sym (ap (λ x. x && good_numbers B (drop (i + 1) xs)) f) ∙ sym e ∙ inv

  pub numbers_end : (B : ℕ) → length xs ≤ i → good_numbers B (drop i xs) ≡ good_numbers B xs → true ≡ good_numbers B xs
  unfolding all_below distinct
  numbers_end B le inv = sym (at_drop_all (good_numbers B) xs i le) ∙ inv
