-- A `Vec` that was lent as a slice. Assumes nothing.
use Rattle.std.proofs.Common.{◌≡◌, ℕ, List, length, get_or, Vec, sym, ap, ◌∙◌}
use Rattle.std.specs.Vec.{with_items}
use Rattle.std.specs.declared.alloc.Global.{Global}
use Rattle.std.proofs.lemmas.List.{with_items_is}

-- v is lent as the slice `old`, which ends as `new`
pub lent_is : {X : Type 0} (v : Vec X Global) (old new : List X) → old ≡ v.items → length new ≡ length old → (with_items v new).items ≡ new
lent_is v old new is long = with_items_is v new (long ∙ ap length is ∙ sym v.ok.0)

pub lent_at : {X : Type 0} (d : X) (v : Vec X Global) (old new : List X) → old ≡ v.items → length new ≡ length old → (w : ℕ) → get_or (with_items v new).items w d ≡ get_or new w d
lent_at d v old new is long w = ap (λ xs. get_or xs w d) (lent_is v old new is long)
