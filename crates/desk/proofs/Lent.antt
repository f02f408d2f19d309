-- An image that was lent as a slice, and answers read off it. Assumes nothing.
use Rattle.std.proofs.Common.{◌≡◌, ℕ, List, length, Option, Vec, sym, ap, ◌∙◌, subst}
use Rattle.std.specs.Vec.{with_items}
use Rattle.std.specs.declared.alloc.Global.{Global}
use Rattle.std.proofs.lemmas.List.{with_items_is}
use Rattle.ringlaws.specs.TxnInfo.{Transaction}
use Rattle.ringunits.specs.Images.{Appends}
use Rattle.ringunits.specs.declared.places.Ring.{Ring}

-- what is appended to the slice is appended to the `Vec` that was lent
pub lent_appends : (N : ℕ) (t t' : Transaction) → t ≡ t' → (v : Vec ℕ Global) (old new : List ℕ) → old ≡ v.items → length new ≡ length old
    → (r : Option ℕ) → Appends N t old r new → Appends N t' v.items r (with_items v new).items
lent_appends N t t' same v old new is long r a =
    subst (λ x. Appends N x v.items r (with_items v new).items) same
    (subst (λ x. Appends N t x r (with_items v new).items) is
    (subst (λ x. Appends N t old r x) (sym (with_items_is v new (long ∙ ap length is ∙ sym v.ok.0))) a))

-- what holds of some words and a ring holds of equal ones
pub of_equals : (P : List ℕ → Ring → Type 0) {xs ys : List ℕ} {r s : Ring} → xs ≡ ys → r ≡ s → P xs r → P ys s
of_equals P {xs} {ys} {r} {s} a b p = subst (λ z. P ys z) b (subst (λ z. P z r) a p)
