-- What `array::from_fn` makes by a closure that changes nothing: the list of what the closure gives at each index.
use Rattle.std.proofs.Common.{◌≡◌, ℕ, zero, suc, ◌+◌, ◌<◌, ◌≤◌, List, map, get_or, inl, inr, ◌∙◌, subst, arith}
use Rattle.std.specs.Array.{IsFromFnResult, IsFromFnResultFrom}
use Rattle.std.specs.Fn.{Called}
use Rattle.std.specs.List.{range_with_len}
use Rattle.std.proofs.lemmas.Bool.{cases_lt}
use Rattle.std.proofs.lemmas.List.FromFn.{fill_by_all}
use denote.Param.Members.{Mut}

module _ {F B : Type 0} (g : Mut F (ℕ × Unit {0}) B) (s : F) (f : ℕ → B) (ys : List B) (total : ℕ)
    (gives : (i : ℕ) (y : B) (q : F) → i < total → Called g s (i, tt) y q → (q ≡ s) × (y ≡ f i)) where
  at_from : (i n : ℕ) → i + n ≤ total → IsFromFnResultFrom g s ys i n → (k : ℕ) (d : B) → i ≤ k → k < i + n → get_or ys k d ≡ f k
  at_from i zero le made k d ge lt = absurd (omega arith)
  at_from i (suc n) le (q, y, at, called, rest) k d ge lt =
      let in' : i < total = omega arith in
      elim (cases_lt i k) [
        | inl later ↦
            let same : IsFromFnResultFrom g s ys (i + 1) n = subst (λ (r : F). IsFromFnResultFrom g r ys (i + 1) n) (gives i y q in' called).0 rest in
            at_from (i + 1) n (omega arith) same k d (omega arith) (omega arith)
        | inr now ↦
            let here : i ≡ k = omega arith in
            subst (λ (j : ℕ). get_or ys j d ≡ f j) here (at.1 d ∙ (gives i y q in' called).1)
      ]

  pub from_fn_made : IsFromFnResult g s ys total → B → ys ≡ map f (range_with_len 0 total)
  from_fn_made made d = fill_by_all f ys total d made.long (λ k lt. at_from 0 total (omega arith) made.each k d (omega arith) (omega arith))
