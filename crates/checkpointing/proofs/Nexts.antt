-- The next block that is home to a gathered record. Assumes nothing.
use Rattle.std.proofs.Common.{◌≡◌, ℕ, ◌+◌, ◌-◌, ◌<◌, ◌≤◌, Bool, true, false, cond, eqb, leb, ltb, ◌&&◌, ◌||◌, ◌⊎◌, min, List, [], ◌∷◌, Option, MatchOption, sym, refl, ap, ◌∙◌, subst, inl, inr, arith}
use Rattle.std.specs.List.{filter, fold, list_any, reduce}
use Rattle.std.proofs.Math.Nat.{min-le_left, min-le_right}
use Rattle.std.proofs.lemmas.Bool.Decides.{nat_tests}
use Rattle.std.proofs.lemmas.Bool.{eq-eqb, eqb-true}
use Rattle.checkpointing.specs.declared.rows.Row.{Row}
use Rattle.checkpointing.specs.Rows.{homes, is_home, NoneHome, Next}

pub never : true ≡ false → ⊥
never e = let z : ◌≡◌ {A = ℕ} 0 1 = cc in omega arith

or_true : (t : Bool) → t || true ≡ true
or_true true = refl
or_true false = refl

-- b is one of the numbers
abbrev Has : List ℕ → ℕ → Type 0
Has xs b = list_any (λ x. eqb x b) xs ≡ true

has_first : (x : ℕ) (xs : List ℕ) (b : ℕ) → x ≡ b → Has (x ∷ xs) b
has_first x xs b e = ap (λ t. t || list_any (λ y. eqb y b) xs) (eq-eqb x b e)

has_later : (x : ℕ) (xs : List ℕ) (b : ℕ) → Has xs b → Has (x ∷ xs) b
has_later x xs b h = ap (λ t. eqb x b || t) h ∙ or_true (eqb x b)

has_one : (x : ℕ) (xs : List ℕ) (b : ℕ) → Has (x ∷ xs) b → (x ≡ b) ⊎ Has xs b
has_one x xs b h = by_test (eqb x b) refl h
  where
    by_test : (t : Bool) → eqb x b ≡ t → t || list_any (λ y. eqb y b) xs ≡ true → (x ≡ b) ⊎ Has xs b
    by_test true e g = inl (eqb-true x b e)
    by_test false e g = inr g

-- the least of numbers is none above any, and is one of them
fold_below : (a : ℕ) (xs : List ℕ) → fold min a xs ≤ a
fold_below a [] = omega arith
fold_below a (x ∷ xs) = let h = fold_below (min a x) xs in let m = min-le_left a x in omega arith

fold_least : (a : ℕ) (xs : List ℕ) (b : ℕ) → Has xs b → fold min a xs ≤ b
fold_least a [] b h = absurd (never (sym h))
fold_least a (x ∷ xs) b h = elim (has_one x xs b h) [
  | inl e ↦ (let l = fold_below (min a x) xs in let m = min-le_right a x in omega arith)
  | inr g ↦ fold_least (min a x) xs b g
]

fold_one : (a : ℕ) (xs : List ℕ) → (fold min a xs ≡ a) ⊎ Has xs (fold min a xs)
fold_one a [] = inl refl
fold_one a (x ∷ xs) = elim (fold_one (min a x) xs) [
  | inl e ↦ elim (either a x) [
    | inl q ↦ inl (e ∙ q)
    | inr q ↦ inr (has_first x xs (fold min (min a x) xs) (sym (e ∙ q)))
  ]
  | inr h ↦ inr (has_later x xs (fold min (min a x) xs) h)
]
  where
    either : (a b : ℕ) → (min a b ≡ a) ⊎ (min a b ≡ b)
    either a b = grind (arith)

-- what passes a test
module _ (test : ℕ → Bool) where
  passed : (xs : List ℕ) (b : ℕ) → test b ≡ true → Has xs b → Has (filter test xs) b
  passed [] b on h = h
  passed (x ∷ xs) b on h = by_test (test x) refl (has_one x xs b h) (λ g. passed xs b on g)
    where
      by_test : (t : Bool) → test x ≡ t → (x ≡ b) ⊎ Has xs b → (Has xs b → Has (filter test xs) b) → Has (cond t (x ∷ filter test xs) (filter test xs)) b
      by_test true e (inl q) rec = has_first x (filter test xs) b q
      by_test true e (inr g) rec = has_later x (filter test xs) b (rec g)
      by_test false e (inl q) rec = absurd (never (sym on ∙ ap test (sym q) ∙ e))
      by_test false e (inr g) rec = rec g

  passes : (xs : List ℕ) (b : ℕ) → Has (filter test xs) b → Has xs b × (test b ≡ true)
  passes [] b h = absurd (never (sym h))
  passes (x ∷ xs) b h = by_test (test x) refl h (λ g. passes xs b g)
    where
      by_test : (t : Bool) → test x ≡ t → Has (cond t (x ∷ filter test xs) (filter test xs)) b → (Has (filter test xs) b → Has xs b × (test b ≡ true)) → Has (x ∷ xs) b × (test b ≡ true)
      by_test true e g rec = elim (has_one x (filter test xs) b g) [
        | inl q ↦ (has_first x xs b q, ap test (sym q) ∙ e)
        | inr i ↦ (let (had, on) = rec i in (has_later x xs b had, on))
      ]
      by_test false e g rec = let (had, on) = rec g in (has_later x xs b had, on)

-- the least home within the bounds is the next
module _ (rows : List Row) (from limit : ℕ) where
  abbrev test : ℕ → Bool
  test b = leb from b && ltb b limit

  inside : (b : ℕ) → from ≤ b → b < limit → test b ≡ true
  inside b l m = grind (arith, nat_tests)

  bounds : (b : ℕ) → test b ≡ true → (from ≤ b) × (b < limit)
  bounds b e = (grind (arith, nat_tests), grind (arith, nat_tests))

  -- blocks below all that pass are no homes
  none_passes : (end : ℕ) → end ≤ limit → ((b : ℕ) → Has (filter test (homes rows)) b → end ≤ b) → NoneHome rows from end
  none_passes end e all b l m = by_test (is_home rows b) refl
    where
      by_test : (t : Bool) → is_home rows b ≡ t → t ≡ false
      by_test true h = let n = all b (passed test (homes rows) b (inside b l (omega arith)) h) in absurd (omega arith)
      by_test false h = refl

  by_list : (xs : List ℕ) → filter test (homes rows) ≡ xs → MatchOption (reduce min xs) (NoneHome rows from limit) (Next rows from limit)
  by_list [] f = none_passes limit (omega arith) (λ b h. absurd (never (sym (subst (λ (ys : List ℕ). Has ys b) f h))))
  by_list (x ∷ xs) f =
      let one : Has (x ∷ xs) (fold min x xs) = elim (fold_one x xs) [ inl q ↦ has_first x xs (fold min x xs) (sym q) | inr h ↦ has_later x xs (fold min x xs) h ] in
      let (home, on) = passes test (homes rows) (fold min x xs) (subst (λ (ys : List ℕ). Has ys (fold min x xs)) (sym f) one) in
      let (least, most) = bounds (fold min x xs) on in
      record {
        least = least;
        most = most;
        home = home;
        none = none_passes (fold min x xs) (omega arith) (λ b h. elim (has_one x xs b (subst (λ (ys : List ℕ). Has ys b) f h)) [
          | inl q ↦ (let l = fold_below x xs in omega arith)
          | inr g ↦ fold_least x xs b g
        ]);
      }

  pub next_is : (o : Option ℕ) → o ≡ reduce min (filter test (homes rows)) → MatchOption o (NoneHome rows from limit) (Next rows from limit)
  next_is o e = subst (λ (x : Option ℕ). MatchOption x (NoneHome rows from limit) (Next rows from limit)) (sym e) (by_list (filter test (homes rows)) refl)

pub next_falls : (rows : List Row) (from limit b : ℕ) → Next rows from limit b → limit - (b + 1) < limit - from
next_falls rows from limit b h = let l = h.least in let m = h.most in omega arith
