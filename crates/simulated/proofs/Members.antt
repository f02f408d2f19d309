-- Members of lists of numbers. Assumes nothing.
use Rattle.std.proofs.Common.{◌≡◌, ℕ, zero, suc, ◌<◌, Bool, true, false, cond, not, ◌&&◌, ◌||◌, eqb, List, [], ◌∷◌, ◌++◌, length, get_or, filter, sym, refl, ap, ◌∙◌, not-suc-le-zero, arith, eq-eqb, eqb-true}
use Rattle.std.proofs.lemmas.Bool.{true≢false, and_parts, and_from, or_parts, not-true, not_from_false}
use Rattle.simulated.specs.Lists.{member, distinct}
use Rattle.simulated.specs.Listing.{with_line}

pub no_true : {P : Type 0} (x : Bool) → x ≡ false → x ≡ true → P
no_true x e h = absurd (true≢false (sym h ∙ e))

-- a member has a place
pub member_at : (b : ℕ) (xs : List ℕ) → member b xs ≡ true → (k : ℕ) × (k < length xs) × (get_or xs k 0 ≡ b)
unfolding member
member_at b [] e = no_true false refl e
member_at b (x ∷ xs) e = by_test (eqb b x) refl (member_at b xs) e
  where
    by_test : (t : Bool) → eqb b x ≡ t → (member b xs ≡ true → (k : ℕ) × (k < length xs) × (get_or xs k 0 ≡ b)) → t || member b xs ≡ true → (k : ℕ) × (k < suc (length xs)) × (get_or (x ∷ xs) k 0 ≡ b)
    by_test true i f h = (0, omega arith, sym (eqb-true b x i))
    by_test false i f h = let (k, l, q) = f h in (suc k, omega arith, q)

pub or_true : (t : Bool) → t || true ≡ true
or_true true = refl
or_true false = refl

-- what stands in a list is a member
pub at_member : (xs : List ℕ) (k : ℕ) → k < length xs → member (get_or xs k 0) xs ≡ true
unfolding member
at_member [] k l = absurd (not-suc-le-zero l)
at_member (x ∷ xs) zero l = ap (λ t. t || member x xs) (eq-eqb x x refl)
at_member (x ∷ xs) (suc k) l = ap (λ t. eqb (get_or xs k 0) x || t) (at_member xs k (omega arith)) ∙ or_true (eqb (get_or xs k 0) x)

or_assoc : (x y z : Bool) → x || (y || z) ≡ (x || y) || z
or_assoc true y z = refl
or_assoc false y z = refl

pub or_false : (t : Bool) → t || false ≡ t
or_false true = refl
or_false false = refl

-- one more number at the end
pub member_push : (b x : ℕ) (xs : List ℕ) → member b (xs ++ x ∷ []) ≡ (member b xs || eqb b x)
unfolding member
member_push b x [] = or_false (eqb b x)
member_push b x (y ∷ xs) = ap (λ t. eqb b y || t) (member_push b x xs) ∙ or_assoc (eqb b y) (member b xs) (eqb b x)

pub distinct_push : (b : ℕ) (xs : List ℕ) → distinct xs ≡ true → member b xs ≡ false → distinct (xs ++ b ∷ []) ≡ true
unfolding distinct member
distinct_push b [] d free = refl
distinct_push b (x ∷ xs) d free =
    let (new, rest) = and_parts (not (member x xs)) (distinct xs) d in
    let (other, none) = or_parts (eqb b x) (member b xs) free in
    let apart : eqb x b ≡ false = flip x b other in
    and_from _ _ (not_from_false _ (member_push x b xs ∙ ap (λ t. t || eqb x b) (not-true (member x xs) new) ∙ apart)) (distinct_push b xs rest none)
  where
    flip : (x b : ℕ) → eqb b x ≡ false → eqb x b ≡ false
    flip x b e = by_test (eqb x b) refl
      where
        by_test : (t : Bool) → eqb x b ≡ t → t ≡ false
        by_test true i = absurd (true≢false (sym (eq-eqb b x (sym (eqb-true x b i))) ∙ e))
        by_test false i = refl

-- what a filter keeps
pub member_kept : (p : ℕ → Bool) (b : ℕ) (xs : List ℕ) → member b (filter p xs) ≡ cond (member b xs) (p b) false
unfolding member
member_kept p b [] = refl
member_kept p b (x ∷ xs) = by_tests (p x) (eqb b x) refl refl (member_kept p b xs)
  where
    by_tests : (t u : Bool) → p x ≡ t → eqb b x ≡ u → member b (filter p xs) ≡ cond (member b xs) (p b) false
        → member b (cond t (x ∷ filter p xs) (filter p xs)) ≡ cond (u || member b xs) (p b) false
    by_tests true true i j h = ap (λ z. z || member b (filter p xs)) j ∙ sym (ap p (eqb-true b x j) ∙ i)
    by_tests true false i j h = ap (λ z. z || member b (filter p xs)) j ∙ h
    by_tests false true i j h = let out : p b ≡ false = ap p (eqb-true b x j) ∙ i in h ∙ none (member b xs) out ∙ sym out
      where
        none : (m : Bool) → p b ≡ false → cond m (p b) false ≡ false
        none true out = out
        none false out = refl
    by_tests false false i j h = h

pub distinct_kept : (p : ℕ → Bool) (xs : List ℕ) → distinct xs ≡ true → distinct (filter p xs) ≡ true
unfolding distinct
distinct_kept p [] d = refl
distinct_kept p (x ∷ xs) d =
    let (new, rest) = and_parts (not (member x xs)) (distinct xs) d in
    by_test (p x) (and_from _ _ (not_from_false _ (member_kept p x xs ∙ ap (λ t. cond t (p x) false) (not-true (member x xs) new))) (distinct_kept p xs rest)) (distinct_kept p xs rest)
  where
    by_test : (t : Bool) → not (member x (filter p xs)) && distinct (filter p xs) ≡ true → distinct (filter p xs) ≡ true → distinct (cond t (x ∷ filter p xs) (filter p xs)) ≡ true
    by_test true h g = h
    by_test false h g = g

-- the members of a list to which a number was added
pub member_with : (x b : ℕ) (xs : List ℕ) → member x (with_line xs b) ≡ (member x xs || eqb x b)
member_with x b xs = by_test (member b xs) refl
  where
    by_test : (t : Bool) → member b xs ≡ t → member x (cond t xs (xs ++ b ∷ [])) ≡ (member x xs || eqb x b)
    by_test true i = by_equal (eqb x b) refl
      where
        by_equal : (u : Bool) → eqb x b ≡ u → member x xs ≡ (member x xs || u)
        by_equal true j = let here : member x xs ≡ true = ap (λ k. member k xs) (eqb-true x b j) ∙ i in here ∙ sym (or_true (member x xs))
        by_equal false j = sym (or_false (member x xs))
    by_test false i = member_push x b xs
