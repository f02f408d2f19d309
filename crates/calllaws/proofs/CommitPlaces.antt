-- The places that a commit fills, word by word, and the contents with them filled. Assumes nothing.
use Rattle.std.proofs.Common.{◌≡◌, ℕ, suc, ◌+◌, ◌-◌, ◌*◌, ◌/◌, ◌%◌, ◌<◌, ◌≤◌, Bool, true, false, cond, ◌&&◌, eqb, ltb, leb, ◌⊎◌, List, [], length, get_or, sym, refl, ap, ◌∙◌, subst, inl, inr, mod-lt, arith}
use Rattle.std.proofs.lemmas.Bool.Decides.{nat_tests}
use Rattle.std.proofs.lemmas.Bool.{cases_lt, ne_eqb}
use Rattle.ringlaws.specs.Layout.{Contents, tail_of, tail_word, place_at, after, used_between}
use Rattle.ringlaws.specs.TxnInfo.{Transaction, taken}
use Rattle.ringlaws.specs.Spells.{units_of}
use Rattle.ringlaws.specs.Appends.{tail_after, Appended}
use Rattle.ringlaws.proofs.Places.{wrap, after_below, used_more, used_none, tail_is}
use Rattle.ringlaws.proofs.Units.{unit_is, unit_same, units_of_long}

-- how many places after t a place lies
abbrev pub ahead : ℕ → ℕ → ℕ → ℕ
ahead N t place = used_between N t place

-- whether w is a word of one of the n places from t on
abbrev pub in_places : ℕ → ℕ → ℕ → ℕ → Bool
in_places N t n w = leb 1 (w / 32) && (leb (w / 32) N && ltb (ahead N t (w / 32 - 1)) n)

-- the word of the units that belongs there
abbrev pub word_for : ℕ → ℕ → List (List ℕ) → ℕ → ℕ
word_for N t us w = get_or (get_or us (ahead N t (w / 32 - 1)) []) (w % 32) 0

-- c with the units in the places from t on
abbrev pub filled : ℕ → ℕ → List (List ℕ) → Contents → Contents
filled N t us c w = cond (in_places N t (length us) w) (word_for N t us w) (c w)

pub ahead_after : (N t i : ℕ) → t < N → i < N → ahead N t (after N t i) ≡ i
ahead_after N t i lt k =
    let z = used_none N t lt in
    used_more N t t i lt lt (omega arith) ∙ (omega arith)

-- a place in use is none of those from the tail on that are filled
pub used_ahead : (N h t n j : ℕ) → h < N → t < N → used_between N h t + n < N → j < used_between N h t → n ≤ ahead N t (after N h j)
used_ahead N h t n j p q room lt =
    let x = wrap N ((t + N) - h) (omega arith) in
    let y = wrap N (h + j) (omega arith) in
    let l : (h + j) % N < N = mod-lt (h + j) (omega arith) in
    let z = wrap N (((h + j) % N + N) - t) (omega arith) in
    omega arith

-- Tests over fresh numbers: a for w / 32, q for a place, x for how far ahead it lies.
none_yet : (N a x : ℕ) → leb 1 a && (leb a N && ltb x 0) ≡ false
none_yet N a x = grind (arith, nat_tests)

one_more : (N n a q x : ℕ) → q < N → (a ≡ q + 1 → x ≡ n) → (1 ≤ a → a ≤ N → x ≡ n → a ≡ q + 1)
    → (leb 1 a && (leb a N && ltb x (suc n))) ≡ cond (eqb a (q + 1)) true (leb 1 a && (leb a N && ltb x n))
one_more N n a q x lt f g = grind (arith, nat_tests)

not_before_lem : (N n a q x : ℕ) → (a ≡ q + 1 → x ≡ n) → eqb a (q + 1) ≡ true → (leb 1 a && (leb a N && ltb x n)) ≡ false
not_before_lem N n a q x f e = grind (arith, nat_tests)

far_test : (N n a x : ℕ) → n ≤ x → (leb 1 a && (leb a N && ltb x n)) ≡ false
far_test N n a x f = grind (arith, nat_tests)

near_test : (N n a x : ℕ) → 1 ≤ a → a ≤ N → x < n → (leb 1 a && (leb a N && ltb x n)) ≡ true
near_test N n a x lo hi f = grind (arith, nat_tests)

beyond_test : (N n a x : ℕ) → N < a → (leb 1 a && (leb a N && ltb x n)) ≡ false
beyond_test N n a x f = grind (arith, nat_tests)

low_test : (N n a x : ℕ) → a < 1 → (leb 1 a && (leb a N && ltb x n)) ≡ false
low_test N n a x f = grind (arith, nat_tests)

module _ (N t : ℕ) where
  pub none_placed : (w : ℕ) → in_places N t 0 w ≡ false
  none_placed w = none_yet N (w / 32) (ahead N t (w / 32 - 1))

  -- unit 0, what lies beyond the ring, and the other places
  pub low_out : (n w : ℕ) → w < 32 → in_places N t n w ≡ false
  low_out n w lt = low_test N n (w / 32) (ahead N t (w / 32 - 1)) (omega arith)

  pub beyond_out : (n w : ℕ) → 32 * (N + 1) ≤ w → in_places N t n w ≡ false
  beyond_out n w le = beyond_test N n (w / 32) (ahead N t (w / 32 - 1)) (omega arith)

  pub far_out : (n q j : ℕ) → j < 32 → n ≤ ahead N t q → in_places N t n (32 * (q + 1) + j) ≡ false
  far_out n q j lt far =
      let d : (32 * (q + 1) + j) / 32 - 1 ≡ q = omega arith in
      far_test N n ((32 * (q + 1) + j) / 32) (ahead N t ((32 * (q + 1) + j) / 32 - 1)) (subst (λ z. n ≤ ahead N t z) (sym d) far)

  pub near_in : (n q j : ℕ) → j < 32 → q < N → ahead N t q < n → in_places N t n (32 * (q + 1) + j) ≡ true
  near_in n q j lt k near =
      let d : (32 * (q + 1) + j) / 32 - 1 ≡ q = omega arith in
      near_test N n ((32 * (q + 1) + j) / 32) (ahead N t ((32 * (q + 1) + j) / 32 - 1)) (omega arith) (omega arith) (subst (λ z. ahead N t z < n) (sym d) near)

module _ (N t : ℕ) (lt : t < N) where
  -- whether w is a word of the place n places on
  abbrev pub is_there : ℕ → ℕ → Bool
  is_there n w = eqb (w / 32) (after N t n + 1)

  pub there_ahead : (n w : ℕ) → n < N → w / 32 ≡ after N t n + 1 → ahead N t (w / 32 - 1) ≡ n
  there_ahead n w k e = let z : w / 32 - 1 ≡ after N t n = omega arith in ap (ahead N t) z ∙ ahead_after N t n lt k

  ahead_there : (n w : ℕ) → 1 ≤ w / 32 → w / 32 ≤ N → ahead N t (w / 32 - 1) ≡ n → w / 32 ≡ after N t n + 1
  ahead_there n w lo hi e =
      let z = tail_is N t (w / 32 - 1) lt (omega arith) in
      let y : after N t n ≡ w / 32 - 1 = ap (after N t) (sym e) ∙ z in
      omega arith

  pub one_more_place : (n w : ℕ) → n < N → in_places N t (suc n) w ≡ cond (is_there n w) true (in_places N t n w)
  one_more_place n w k =
      one_more N n (w / 32) (after N t n) (ahead N t (w / 32 - 1)) (after_below N t n lt) (there_ahead n w k) (ahead_there n w)

  pub place_is_new : (n w : ℕ) → n < N → is_there n w ≡ true → in_places N t n w ≡ false
  place_is_new n w k e = not_before_lem N n (w / 32) (after N t n) (ahead N t (w / 32 - 1)) (there_ahead n w k) e

-- What the filled contents have, and with the tail moved.
module _ (N t : ℕ) (us : List (List ℕ)) (c : Contents) where
  pub filled_out : (w : ℕ) → in_places N t (length us) w ≡ false → filled N t us c w ≡ c w
  filled_out w e = ap (λ b. cond b (word_for N t us w) (c w)) e

  pub filled_word : (lt : t < N) (few : length us < N) (i j : ℕ) → i < length us → j < 32
      → filled N t us c (32 * (after N t i + 1) + j) ≡ get_or (get_or us i []) j 0
  filled_word lt few i j k l =
      let q : after N t i < N = after_below N t i lt in
      let o : ahead N t (after N t i) ≡ i = ahead_after N t i lt (omega arith) in
      let d : (32 * (after N t i + 1) + j) / 32 - 1 ≡ after N t i = omega arith in
      let m : (32 * (after N t i + 1) + j) % 32 ≡ j = omega arith in
      ap (λ b. cond b (word_for N t us (32 * (after N t i + 1) + j)) (c (32 * (after N t i + 1) + j))) (near_in N t (length us) (after N t i) j l q (omega arith))
      ∙ ap (λ z. get_or (get_or us (ahead N t z) []) ((32 * (after N t i + 1) + j) % 32) 0) d
      ∙ ap (λ z. get_or (get_or us z []) ((32 * (after N t i + 1) + j) % 32) 0) o
      ∙ ap (λ z. get_or (get_or us i []) z 0) m

-- the contents that a commit comes to: the places filled, the tail moved
abbrev pub committed : ℕ → Transaction → Contents → Contents
committed N t c w = cond (eqb w tail_word) (tail_after N c t) (filled N (tail_of c) (units_of t) c w)

module _ (N : ℕ) (t : Transaction) (c : Contents) (lt : tail_of c < N) (few : length (units_of t) < N)
    (whole : (k : ℕ) → k < length (units_of t) → length (get_or (units_of t) k []) ≡ 32) where
  not_tail : (w : ℕ) → (w ≡ tail_word → ⊥) → committed N t c w ≡ filled N (tail_of c) (units_of t) c w
  not_tail w ne = ap (λ b. cond b (tail_after N c t) (filled N (tail_of c) (units_of t) c w)) (ne_eqb w tail_word ne)

  outside : (w : ℕ) → (w ≡ tail_word → ⊥) → in_places N (tail_of c) (length (units_of t)) w ≡ false → committed N t c w ≡ c w
  outside w ne out = not_tail w ne ∙ filled_out N (tail_of c) (units_of t) c w out

  pub committed_appends : Appended N t c (committed N t c)
  committed_appends = record {
    tail = refl;
    unit_zero = λ w k ne. outside w ne (low_out N (tail_of c) (length (units_of t)) w k);
    units = units_there;
    others = λ p k none. other_place p k none (cases_lt (ahead N (tail_of c) p) (length (units_of t)));
    beyond = λ w k. outside w (λ e. omega arith) (beyond_out N (tail_of c) (length (units_of t)) w k);
  }
    where
      units_there : (i : ℕ) → i < taken (length t) → place_at (committed N t c) (after N (tail_of c) i) ≡ get_or (units_of t) i []
      units_there i k =
          let long = units_of_long t in
          let less : i < length (units_of t) = omega arith in
          sym (unit_is (committed N t c) (after N (tail_of c) i + 1) (get_or (units_of t) i []) (whole i less)
          (λ j l. sym (not_tail (32 * (after N (tail_of c) i + 1) + j) (λ e. omega arith) ∙ filled_word N (tail_of c) (units_of t) c lt few i j less l)))

      other_place : (p : ℕ) → p < N → ((i : ℕ) → i < taken (length t) → p ≡ after N (tail_of c) i → ⊥)
          → (ahead N (tail_of c) p < length (units_of t)) ⊎ (length (units_of t) ≤ ahead N (tail_of c) p) → place_at (committed N t c) p ≡ place_at c p
      other_place p k none (inl near) =
          let long = units_of_long t in
          absurd (none (ahead N (tail_of c) p) (omega arith) (sym (tail_is N (tail_of c) p lt k)))
      other_place p k none (inr far) = unit_same c (committed N t c) (p + 1)
          (λ j l. outside (32 * (p + 1) + j) (λ e. omega arith) (far_out N (tail_of c) (length (units_of t)) p j l far))
