-- The search for the newest place, step by step. Assumes nothing.
use Rattle.std.proofs.Common.{◌≡◌, ℕ, zero, suc, ◌-◌, ◌<◌, ◌≤◌, Bool, true, false, cond, eqb, List, [], ◌∷◌, length, get_or, take, Some, None, Option, MatchOption, sym, refl, ap, ◌∙◌, arith}
use Rattle.std.specs.Option.{option_map}
use Rattle.std.specs.List.{AllWithin, HoldsAt}
use Rattle.std.proofs.lemmas.Bool.Decides.{nat_tests}
use Rattle.std.proofs.lemmas.Bool.{cond-true, cond-false, eq-eqb}
use Rattle.ringlaws.specs.Layout.{Contents, before}
use Rattle.ringlaws.specs.TxnInfo.{taken, count_in, numbers_in, good_count}
use Rattle.ringlaws.specs.Sound.{info_before, stepped}
use Rattle.ringlaws.specs.Newest.{index_of, seeking_back, newest}
use Rattle.ringlaws.proofs.Seek.{seek_end, seek_stop, seek_here, seek_on}
use Rattle.ring.specs.Sources.{Reading, Agrees}

index_here : (r : ℕ) (xs : List ℕ) (i : ℕ) → i < length xs → r ≡ get_or xs i 0 → ((k : ℕ) → k < i → r ≡ get_or xs k 0 → ⊥) → index_of r xs ≡ Some i
unfolding index_of
index_here r [] i lt e before = absurd (omega arith)
index_here r (x ∷ xs) zero lt e before = cond-true (eqb r x) (Some 0) (option_map suc (index_of r xs)) (eq-eqb r x e)
index_here r (x ∷ xs) (suc i) lt e before =
    let no-match : eqb r x ≡ false = let ne : r ≡ x → ⊥ = before 0 (omega arith) in grind (arith, nat_tests) in
    cond-false (eqb r x) (Some 0) (option_map suc (index_of r xs)) no-match
    ∙ ap (option_map suc) (index_here r xs i (omega arith) e (λ k l. before (suc k) (omega arith)))

index_none : (r : ℕ) (xs : List ℕ) → ((k : ℕ) → k < length xs → r ≡ get_or xs k 0 → ⊥) → index_of r xs ≡ None
unfolding index_of
index_none r [] none = refl
index_none r (x ∷ xs) none =
    let no-match : eqb r x ≡ false = let ne : r ≡ x → ⊥ = none 0 (omega arith) in grind (arith, nat_tests) in
    cond-false (eqb r x) (Some 0) (option_map suc (index_of r xs)) no-match ∙ ap (option_map suc) (index_none r xs (λ k l. none (suc k) (omega arith)))

-- the first place of a number, as a search for it tells
pub index_first : (r : ℕ) (xs : List ℕ) (o : Option ℕ)
    → MatchOption o (AllWithin (λ x. r ≡ x → ⊥) xs 0 (length xs)) (λ i. (i < length xs) × HoldsAt (λ x. r ≡ x) xs i × AllWithin (λ x. r ≡ x → ⊥) xs 0 i) → o ≡ index_of r xs
index_first r xs None h = sym (index_none r xs (λ k lt. h k 0 (omega arith) lt))
index_first r xs (Some i) (lt, here, before) = sym (index_here r xs i lt (here 0) (λ k l. before k 0 (omega arith) l))

-- an index into the first n is below n
pub index_below : (r n : ℕ) (xs : List ℕ) (k : ℕ) → index_of r (take n xs) ≡ Some k → k < n
unfolding index_of
index_below r zero xs k e = let z : ◌≡◌ {A = ℕ} 0 1 = cc in absurd (omega arith)
index_below r (suc n) [] k e = let z : ◌≡◌ {A = ℕ} 0 1 = cc in absurd (omega arith)
index_below r (suc n) (x ∷ xs) k e = go (eqb r x) (index_of r (take n xs)) (λ j q. index_below r n xs j q) e
  where
    go : (b : Bool) (o : Option ℕ) → ((j : ℕ) → o ≡ Some j → j < n) → cond b (Some 0) (option_map suc o) ≡ Some k → k < suc n
    go true o f e = let z : 0 ≡ k = cc in omega arith
    go false None f e = let z : ◌≡◌ {A = ℕ} 0 1 = cc in absurd (omega arith)
    go false (Some j) f e = let z : suc j ≡ k = cc in let b = f j refl in omega arith

-- a search that has come to a place
abbrev pub Sought : Reading → ℕ → ℕ → ℕ → ℕ → ℕ → ℕ → Type 0
Sought reads N head tail r place left = (c : Contents) → Agrees reads c → newest N c head tail r ≡ seeking_back N c r left place left

module _ (reads : Reading) (N head tail r place left : ℕ) (s : Sought reads N head tail r place left) where
  pub sought_none : left ≤ 0 → (c : Contents) → Agrees reads c → None ≡ newest N c head tail r
  sought_none le c a =
      let z : 0 ≡ left = omega arith in
      sym (seek_end N c r place) ∙ ap (λ k. seeking_back N c r k place k) z ∙ sym (s c a)

  module _ (u : List ℕ) (is : (c : Contents) → Agrees reads c → u ≡ info_before N c place) (some : 0 < left) where
    pub sought_stop : good_count left u ≡ false → (c : Contents) → Agrees reads c → None ≡ newest N c head tail r
    sought_stop g c a = sym (s c a ∙ seek_stop N c r place left some (ap (good_count left) (sym (is c a)) ∙ g))

    pub sought_here : good_count left u ≡ true → (n k p : ℕ) → n ≡ count_in u → index_of r (take n u) ≡ Some k → p ≡ before N place (taken n - k)
        → (c : Contents) → Agrees reads c → Some p ≡ newest N c head tail r
    sought_here g n k p m i q c a =
        let e : u ≡ info_before N c place = is c a in
        ap Some (q ∙ ap (λ x. before N place (taken x - k)) (m ∙ ap count_in e))
        ∙ sym (s c a ∙ seek_here N c r place left k some (ap (good_count left) (sym e) ∙ g) (ap (λ x. index_of r (numbers_in x)) (sym e) ∙ ap (λ x. index_of r (take x u)) (sym m) ∙ i))

    pub sought_on : good_count left u ≡ true → (n p l : ℕ) → n ≡ count_in u → index_of r (take n u) ≡ None → p ≡ before N place (taken n) → l ≡ left - taken n
        → Sought reads N head tail r p l
    sought_on g n p l m i q w c a =
        let e : u ≡ info_before N c place = is c a in
        let f : stepped N c place ≡ p = sym (q ∙ ap (λ x. before N place (taken x)) (m ∙ ap count_in e)) in
        let d : left - taken (count_in (info_before N c place)) ≡ l = sym (w ∙ ap (λ x. left - taken x) (m ∙ ap count_in e)) in
        s c a ∙ seek_on N c r place left some (ap (good_count left) (sym e) ∙ g) (ap (λ x. index_of r (numbers_in x)) (sym e) ∙ ap (λ x. index_of r (take x u)) (sym m) ∙ i)
        ∙ ap (λ k. seeking_back N c r k (stepped N c place) k) d ∙ ap (λ k. seeking_back N c r l k l) f
