-- The laws of the joined kind follow from those of its two kinds and from word 0.
use Rattle.std.specs.Prelude.{◌≡◌, ℕ, List, Some, None, Option, ◌==◌, slice_index}
use Rattle.std.proofs.Common.{ap, sym, ◌∙◌, inl, inr}
use Rattle.std.specs.Option.{option_map}
use Rattle.std.proofs.lemmas.Bool.{cond-true, cond-false, cases_Bool}
use Rattle.tile.specs.Tiles.{tile_unit, tile_reads}
use Rattle.tile.specs.Laws as tiles
use Rattle.mast.specs.Masts.{mast_unit, mast_reads}
use Rattle.mast.specs.Laws as masts
use Rattle.joined.specs.declared.record.Joined.{Joined}
use Rattle.joined.specs.declared.record.Joined.TheVariants.{Tile, Mast}
use Rattle.joined.specs.Joins.{joined_unit, joined_reads}

pub back : (r : Joined) → joined_reads (joined_unit r) ≡ Some r
back (Tile t) = ap (option_map Tile) (tiles.back t)
back (Mast m) = ap (option_map Mast) (masts.back m)

-- one kind's record, wrapped, has that kind's unit
wrapped : {R : Type 0} (wrap : R → Joined) (unit : R → List ℕ) → ((x : R) → joined_unit (wrap x) ≡ unit x)
    → (u : List ℕ) (o : Option R) → ((x : R) → o ≡ Some x → u ≡ unit x) → (r : Joined) → option_map wrap o ≡ Some r → u ≡ joined_unit r
wrapped wrap unit same u None only r e = cc
wrapped wrap unit same u (Some x) only r e =
    let s : wrap x ≡ r = cc in
    only x (λ _. Some x) ∙ sym (same x) ∙ ap joined_unit s

pub only : (u : List ℕ) (r : Joined) → joined_reads u ≡ Some r → u ≡ joined_unit r
only u r e =
    let asTile : Option Joined = option_map Tile (tile_reads u) in
    let asMast : Option Joined = option_map Mast (mast_reads u) in
    elim (cases_Bool (slice_index u 0 == 1)) [
      | inl one ↦ wrapped Tile tile_unit (λ t _. tile_unit t) u (tile_reads u) (tiles.only u) r (sym (cond-true (slice_index u 0 == 1) asTile asMast one) ∙ e)
      | inr other ↦ wrapped Mast mast_unit (λ m _. mast_unit m) u (mast_reads u) (masts.only u) r (sym (cond-false (slice_index u 0 == 1) asTile asMast other) ∙ e)
    ]
