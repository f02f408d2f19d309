-- Units of places in a row, and what transactions are written as. Assumes nothing.
use Rattle.std.proofs.Common.{◌≡◌, ℕ, zero, suc, ◌+◌, ◌-◌, ◌*◌, ◌<◌, ◌≤◌, ◌⊎◌, List, [], ◌∷◌, ◌++◌, length, get_or, take, drop, sym, refl, ap, ◌∙◌, inl, inr, arith, length-append}
use lib.ListN.{length-map}
use Rattle.std.proofs.lemmas.Bool.{cases_lt}
use Rattle.std.proofs.lemmas.List.FromFn.{length-map-range_with_len, get_or-map-range_with_len, map-range_with_len_more, fill_by_all}
use Rattle.std.proofs.lemmas.List.{append_assoc, append-nil, get_or_append_left, get_or-append_right, take_at, drop_at}
use Rattle.ringlaws.specs.Layout.{Contents, unit_at, place_at, after, units_from}
use Rattle.ringlaws.specs.TxnInfo.{Transaction, numbers_of, record_units, info_unit, taken}
use Rattle.ringlaws.specs.Spells.{units_of, written, Whole, AllFair}
use Rattle.ringlaws.specs.Sound.{settings_at}
use Rattle.ringlaws.proofs.Places.{after_after}

pub unit_long : (c : Contents) (u : ℕ) → length (unit_at c u) ≡ 32
unfolding unit_at
unit_long c u = length-map-range_with_len (λ i. c (32 * u + i)) 0 32

-- a word of a unit
pub unit_word : (c : Contents) (u j : ℕ) → j < 32 → get_or (unit_at c u) j 0 ≡ c (32 * u + j)
unfolding unit_at
unit_word c u j lt = get_or-map-range_with_len (λ i. c (32 * u + i)) 0 32 j j 0 lt (omega arith)

-- a unit by its words
pub unit_is : (c : Contents) (u : ℕ) (words : List ℕ) → length words ≡ 32 → ((j : ℕ) → j < 32 → get_or words j 0 ≡ c (32 * u + j)) → words ≡ unit_at c u
unfolding unit_at
unit_is c u words long h = fill_by_all (λ i. c (32 * u + i)) words 32 0 long h

pub unit_same : (c d : Contents) (u : ℕ) → ((j : ℕ) → j < 32 → d (32 * u + j) ≡ c (32 * u + j)) → unit_at d u ≡ unit_at c u
unit_same c d u h = unit_is c u (unit_at d u) (unit_long d u) (λ j lt. unit_word d u j lt ∙ h j lt)

pub units_long : (N : ℕ) (c : Contents) (p n : ℕ) → length (units_from N c p n) ≡ n
unfolding units_from
units_long N c p n = length-map-range_with_len (λ k. place_at c (after N p k)) 0 n

pub units_at : (N : ℕ) (c : Contents) (p n k : ℕ) → k < n → get_or (units_from N c p n) k [] ≡ place_at c (after N p k)
unfolding units_from
units_at N c p n k lt = get_or-map-range_with_len (λ k. place_at c (after N p k)) 0 n k k [] lt (omega arith)

-- places in a row, by each of them
pub units_are : (N : ℕ) (c : Contents) (p n : ℕ) (us : List (List ℕ)) → length us ≡ n → ((k : ℕ) → k < n → get_or us k [] ≡ place_at c (after N p k)) → us ≡ units_from N c p n
unfolding units_from
units_are N c p n us long h = fill_by_all (λ k. place_at c (after N p k)) us n [] long h

-- one row and then another
pub units_append : (N : ℕ) (c : Contents) (p a b : ℕ) → p < N → a + b ≤ N → units_from N c p (a + b) ≡ units_from N c p a ++ units_from N c (after N p a) b
units_append N c p a b h l = sym (units_are N c p (a + b) (units_from N c p a ++ units_from N c (after N p a) b)
    (length-append (units_from N c p a) (units_from N c (after N p a) b) ∙ (let x = units_long N c p a in let y = units_long N c (after N p a) b in omega arith))
    (λ k lt. at k lt (cases_lt k a)))
  where
    at : (k : ℕ) → k < a + b → (k < a) ⊎ (a ≤ k) → get_or (units_from N c p a ++ units_from N c (after N p a) b) k [] ≡ place_at c (after N p k)
    at k lt (inl s) = get_or_append_left (units_from N c p a) (units_from N c (after N p a) b) [] k (let x = units_long N c p a in omega arith) ∙ units_at N c p a k s
    at k lt (inr s) =
        let w : a + (k - a) ≡ k = omega arith in
        get_or-append_right (units_from N c p a) (units_from N c (after N p a) b) a k [] (units_long N c p a) s
        ∙ units_at N c (after N p a) b (k - a) (omega arith)
        ∙ ap (place_at c) (after_after N p a (k - a) h (omega arith)) ∙ ap (λ z. place_at c (after N p z)) w

pub units_push : (N : ℕ) (c : Contents) (p a : ℕ) → units_from N c p (a + 1) ≡ units_from N c p a ++ place_at c (after N p a) ∷ []
unfolding units_from
units_push N c p a = map-range_with_len_more (λ k. place_at c (after N p k)) 0 a a (omega arith)

-- what lies in the places may come from other contents
pub units_same : (N : ℕ) (c d : Contents) (p n : ℕ) → ((k : ℕ) → k < n → place_at d (after N p k) ≡ place_at c (after N p k)) → units_from N d p n ≡ units_from N c p n
units_same N c d p n h = units_are N c p n (units_from N d p n) (units_long N d p n) (λ k lt. units_at N d p n k lt ∙ h k lt)

-- two lists of equal beginnings
pub split_same : {X : Type 0} (a b c d : List X) → length a ≡ length c → a ++ b ≡ c ++ d → (a ≡ c) × (b ≡ d)
split_same a b c d l e = (
  sym (take_at a b (length a) refl) ∙ ap (take (length a)) e ∙ take_at c d (length a) (sym l),
  sym (drop_at a b (length a) refl) ∙ ap (drop (length a)) e ∙ drop_at c d (length a) (sym l),
)

pub units_of_long : (t : Transaction) → length (units_of t) ≡ taken (length t)
units_of_long t = length-append (record_units t) (info_unit (numbers_of t) ∷ []) ∙ (let x = length-map t (λ s. s.unit) in omega arith)

pub written_append : (ts us : List Transaction) → written (ts ++ us) ≡ written ts ++ written us
unfolding written
written_append [] us = refl
written_append (t ∷ ts) us = ap (λ x. units_of t ++ x) (written_append ts us) ∙ sym (append_assoc (units_of t) (written ts) (written us))

pub written_push : (ts : List Transaction) (t : Transaction) → written (ts ++ t ∷ []) ≡ written ts ++ units_of t
unfolding written
written_push ts t = written_append ts (t ∷ []) ∙ ap (λ x. written ts ++ x) (append-nil (units_of t))

pub fair_append : (B : ℕ) (ts us : List Transaction) → AllFair B ts → AllFair B us → AllFair B (ts ++ us)
fair_append B [] us f g = g
fair_append B (t ∷ ts) us (a, f) g = (a, fair_append B ts us f g)

pub fair_front : (B : ℕ) (ts us : List Transaction) → AllFair B (ts ++ us) → AllFair B ts × AllFair B us
fair_front B [] us g = (tt, g)
fair_front B (t ∷ ts) us (a, g) = let (x, y) = fair_front B ts us g in ((a, x), y)

-- a list is empty or has a last element
pub last_of : {X : Type 0} (xs : List X) → (xs ≡ []) ⊎ ((front : List X) × (x : X) × (xs ≡ front ++ x ∷ []))
last_of [] = inl refl
last_of {X = X} (x ∷ xs) = inr (go (last_of xs))
  where
    go : (xs ≡ []) ⊎ ((front : List X) × (y : X) × (xs ≡ front ++ y ∷ [])) → (front : List X) × (y : X) × (x ∷ xs ≡ front ++ y ∷ [])
    go (inl e) = ([], x, ap (λ r. x ∷ r) e)
    go (inr (front, y, e)) = (x ∷ front, y, ap (λ r. x ∷ r) e)

-- Settings found in places.
module _ (N : ℕ) (c : Contents) (p : ℕ) where
  pub settings_numbers : (k : ℕ) (ns : List ℕ) → numbers_of (settings_at N c p k ns) ≡ ns
  unfolding settings_at
  settings_numbers k [] = refl
  settings_numbers k (n ∷ ns) = ap (λ x. n ∷ x) (settings_numbers (suc k) ns)

  pub settings_long : (k : ℕ) (ns : List ℕ) → length (settings_at N c p k ns) ≡ length ns
  unfolding settings_at
  settings_long k [] = refl
  settings_long k (n ∷ ns) = ap suc (settings_long (suc k) ns)

  pub settings_whole : (k : ℕ) (ns : List ℕ) → Whole (record_units (settings_at N c p k ns))
  unfolding settings_at
  settings_whole k [] = tt
  settings_whole k (n ∷ ns) = (unit_long c (after N p k + 1), settings_whole (suc k) ns)

  settings_at_lem : (k : ℕ) (ns : List ℕ) (i : ℕ) → i < length ns → get_or (record_units (settings_at N c p k ns)) i [] ≡ place_at c (after N p (k + i))
  unfolding settings_at
  settings_at_lem k [] i lt = absurd (omega arith)
  settings_at_lem k (n ∷ ns) zero lt = let z : k ≡ k + 0 = omega arith in ap (λ j. place_at c (after N p j)) z
  settings_at_lem k (n ∷ ns) (suc i) lt = let z : suc k + i ≡ k + suc i = omega arith in settings_at_lem (suc k) ns i (omega arith) ∙ ap (λ j. place_at c (after N p j)) z

  pub settings_units : (ns : List ℕ) → record_units (settings_at N c p 0 ns) ≡ units_from N c p (length ns)
  settings_units ns =
      units_are N c p (length ns) (record_units (settings_at N c p 0 ns)) (length-map (settings_at N c p 0 ns) (λ s. s.unit) ∙ settings_long 0 ns)
      (λ i lt. let z : 0 + i ≡ i = omega arith in settings_at_lem 0 ns i lt ∙ ap (λ j. place_at c (after N p j)) z)

  -- settings that lie in the places are found there
  pub settings_are : (k : ℕ) (t : Transaction) → ((i : ℕ) → i < length t → get_or (record_units t) i [] ≡ place_at c (after N p (k + i))) → settings_at N c p k (numbers_of t) ≡ t
  unfolding settings_at
  settings_are k [] h = refl
  settings_are k (s ∷ t) h =
      let z : k ≡ k + 0 = omega arith in
      let a : place_at c (after N p k) ≡ s.unit = ap (λ j. place_at c (after N p j)) z ∙ sym (h 0 (omega arith)) in
      let b : settings_at N c p (suc k) (numbers_of t) ≡ t = settings_are (suc k) t (λ i lt. let w : k + suc i ≡ suc k + i = omega arith in h (suc i) (omega arith) ∙ ap (λ j. place_at c (after N p j)) w) in
      ap (λ (u : List ℕ). record { number = s.number; unit = u } ∷ settings_at N c p (suc k) (numbers_of t)) a ∙ ap (λ (r : Transaction). s ∷ r) b
