-- Units laid over a block, one record after another. Assumes nothing.
use Rattle.std.proofs.Common.{◌≡◌, ℕ, ◌+◌, ◌*◌, ◌<◌, ◌≤◌, List, length, Some, None, Option, sym, refl, ap, ◌∙◌, inl, inr, arith}
use Rattle.std.proofs.lemmas.Bool.{cases_eq}
use Rattle.ringlaws.specs.Layout.{Contents, unit_at}
use Rattle.ringlaws.proofs.Units.{unit_same}
use Rattle.ring.specs.Sources.{Reading, Agrees}
use Rattle.ringunits.specs.Images.{contents_of, Filled}
use Rattle.checkpointing.specs.Rows.{unit_from}

-- the first i units of a block are their records', and the others are as they were
module _ (reads : Reading) (place : ℕ → Option ℕ) (block : ℕ) (base : List ℕ) where
  abbrev pub Laid : ℕ → List ℕ → Type 0
  Laid i buf =
      (length buf ≡ 512)
      × ((c : Contents) → Agrees reads c → (k : ℕ) → k < i → unit_at (contents_of buf) k ≡ unit_from c (place (16 * block + k)) (unit_at (contents_of base) k))
      × ((k : ℕ) → i ≤ k → unit_at (contents_of buf) k ≡ unit_at (contents_of base) k)

  pub laid_none : length base ≡ 512 → Laid 0 base
  laid_none l = (l, (λ c a k lt. absurd (omega arith)), (λ k le. refl))

  pub laid_passed : (i : ℕ) (buf : List ℕ) → place (16 * block + i) ≡ None → Laid i buf → Laid (i + 1) buf
  laid_passed i buf none (l, h, s) = (
    l,
    (λ c a k lt. elim (cases_eq k i) [
      | inl e ↦ s k (omega arith) ∙ ap (λ o. unit_from c o (unit_at (contents_of base) k)) (sym (ap (λ x. place (16 * block + x)) e ∙ none))
      | inr ne ↦ h c a k (omega arith)
    ]),
    (λ k le. s k (omega arith)),
  )

  other : (i k : ℕ) (words buf new : List ℕ) → Filled i words buf new → (k ≡ i → ⊥) → unit_at (contents_of new) k ≡ unit_at (contents_of buf) k
  other i k words buf new f ne = unit_same (contents_of buf) (contents_of new) k (λ j lt. f.others (32 * k + j) (λ e. ne (omega arith)))

  pub laid_here : (i p : ℕ) (words buf new : List ℕ) → place (16 * block + i) ≡ Some p → ((c : Contents) → Agrees reads c → words ≡ unit_at c (p + 1)) → Filled i words buf new
      → Laid i buf → Laid (i + 1) new
  laid_here i p words buf new some w f (l, h, s) = (
    f.long ∙ l,
    (λ c a k lt. elim (cases_eq k i) [
      | inl e ↦ ap (unit_at (contents_of new)) e ∙ f.here ∙ w c a ∙ ap (λ o. unit_from c o (unit_at (contents_of base) k)) (sym (ap (λ x. place (16 * block + x)) e ∙ some))
      | inr ne ↦ other i k words buf new f ne ∙ h c a k (omega arith)
    ]),
    (λ k le. other i k words buf new f (λ e. omega arith) ∙ s k (omega arith)),
  )
