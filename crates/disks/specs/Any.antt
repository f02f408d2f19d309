-- Whether one of some tests is true. Assumes nothing.
use Rattle.std.specs.Prelude.{◌≡◌, ℕ, zero, suc, ◌+◌, ◌<◌, Bool, true, false, ◌||◌, refl}
use Rattle.std.proofs.Common.{sym, ap, ◌∙◌, inl, inr, arith, not-suc-le-zero}
use Rattle.std.proofs.lemmas.Bool.{cases_eq}
use Rattle.device.specs.Sectors.{any_below}

or_false : (x y : Bool) → x || y ≡ false → (x ≡ false) × (y ≡ false)
or_false true y e = let z : ◌≡◌ {A = ℕ} 0 1 = cc in absurd (omega arith)
or_false false y e = (refl, e)

pub any_false : (f : ℕ → Bool) (n : ℕ) → any_below f n ≡ false → (k : ℕ) → k < n → f k ≡ false
unfolding any_below
any_false f zero e k l = absurd (not-suc-le-zero l)
any_false f (suc n) e k l =
    let (here, below) = or_false (f n) (any_below f n) e in
    elim (cases_eq k n) [ inl i ↦ ap f i ∙ here | inr ne ↦ any_false f n below k (omega arith) ]

pub any_none : (f : ℕ → Bool) (n : ℕ) → ((k : ℕ) → k < n → f k ≡ false) → any_below f n ≡ false
unfolding any_below
any_none f zero h = refl
any_none f (suc n) h = ap (λ t. t || any_below f n) (h n (omega arith)) ∙ any_none f n (λ k l. h k (omega arith))

pub any_true : (f : ℕ → Bool) (n k : ℕ) → k < n → f k ≡ true → any_below f n ≡ true
any_true f n k l e = by_test (any_below f n) refl
  where
    by_test : (t : Bool) → any_below f n ≡ t → t ≡ true
    by_test true i = refl
    by_test false i = sym (any_false f n i k l) ∙ e

-- Of no tests none is true, and of one test more none is true where neither it nor any before it is.
pub any_zero : (f : ℕ → Bool) → any_below f 0 ≡ false
unfolding any_below
any_zero f = refl

pub any_more : (f : ℕ → Bool) (n : ℕ) → any_below f n ≡ false → f n ≡ false → any_below f (n + 1) ≡ false
unfolding any_below
any_more f n h e =
    let q : n + 1 ≡ suc n = omega arith in
    ap (any_below f) q ∙ ap (λ t. t || any_below f n) e ∙ h

pub any_same : (f g : ℕ → Bool) (n : ℕ) → ((k : ℕ) → k < n → f k ≡ g k) → any_below f n ≡ any_below g n
unfolding any_below
any_same f g zero h = refl
any_same f g (suc n) h = ap (λ t. t || any_below f n) (h n (omega arith)) ∙ ap (λ t. g n || t) (any_same f g n (λ k l. h k (omega arith)))
