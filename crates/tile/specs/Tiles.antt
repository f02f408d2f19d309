-- The tile kind: why a tile cannot be made, which unit a tile is written as, and which units read as a tile.
use Rattle.std.specs.Prelude.{◌≡◌, ℕ, ◌^◌, ◌<◌, ◌≤◌, Bool, true, false, cond, List, ◌∷◌, map, length, get_or, ℤ, pos, is_some, Some, None, Decides, Option, nat_le, nat_lt, slice_index, slice_index_or, refl}
use Rattle.std.specs.Int.{w16}
use Rattle.std.proofs.Common.{of_z, to_z}
use Rattle.std.specs.List.{range_with_len}
use Rattle.std.specs.Str.{bytes_eq}
use Rattle.std.proofs.lemmas.List.FromFn.{length-map-range_with_len}
use Rattle.std.proofs.lemmas.Bool.{leb-true, and_parts}
use Rattle.refusal.specs.declared.reason.Refusal.{Refusal}
use Rattle.refusal.specs.declared.reason.Refusal.TheVariants.{ColumnOrRow, Level}
use Rattle.layout.specs.Fields.{word_of, field_at}
use Rattle.std.specs.List.{list_all}
use Rattle.tile.specs.Ranges.{is_level, is_place, is_tile}
use Rattle.tile.specs.declared.record.Tile.{Tile}

-- Why there is no tile with these fields, if there is none: first the column or row, then the levels.
abbrev pub tile_refusal : (column row : ℕ) → List ℤ → Option Refusal
tile_refusal column row levels = cond (is_place column row) (cond (list_all is_level levels) None (Some Level)) (Some ColumnOrRow)

-- the tile that was made of these fields
pub record Made (column row plan : ℕ) (levels : List ℤ) (t : Tile) : Type 0 where
  pub accepted : tile_refusal column row levels ≡ None
  pub same_column : t.column ≡ column
  pub same_row : t.row ≡ row
  pub same_plan : t.plan ≡ plan
  pub same_levels : t.levels ≡ levels

-- the level of a sample
abbrev pub level_of : Tile → ℕ → Option ℤ
level_of t sample = cond (nat_lt sample 112) (Some (slice_index_or t.levels sample (pos 0))) None

-- The bits of level s: two's complement in 16 bits.
abbrev pub level_bits : List ℤ → ℕ → ℕ
level_bits levels s = of_z w16 (slice_index_or levels s (pos 0))

-- Word 0 is 1, word 1 the column, word 2 the row, word 3 the plan; words 4 to 31 hold four levels each.
unfoldable pub level_words : List ℤ → List ℕ
level_words levels = map (word_of 16 4 (level_bits levels)) (range_with_len 0 28)

abbrev pub tile_words : (column row plan : ℕ) → List ℤ → List ℕ
tile_words column row plan levels = 1 ∷ column ∷ row ∷ plan ∷ level_words levels

-- the unit that a tile is written as
abbrev pub tile_unit : Tile → List ℕ
tile_unit t = tile_words t.column t.row t.plan t.levels

-- Level s of a unit: the 16 bits of word 4 + s div 4 from bit 16 × (s mod 4) up, as two's complement.
abbrev pub level_at : List ℕ → ℕ → ℤ
level_at unit s = to_z w16 (field_at 16 4 4 unit s)

unfoldable pub levels_in : List ℕ → List ℤ
levels_in unit = map (level_at unit) (range_with_len 0 112)

pub levels_in_long : (unit : List ℕ) → length (levels_in unit) ≡ 112
unfolding levels_in
levels_in_long unit = length-map-range_with_len (level_at unit) 0 112

-- the tile with these fields, where they are a tile's
abbrev pub tile_if : (column row plan : ℕ) (levels : List ℤ) → length levels ≡ 112 → (b : Bool) → is_tile column row levels ≡ b → Option Tile
tile_if column row plan levels long true fits =
    let place = and_parts (is_place column row) (list_all is_level levels) fits in
    let each' = and_parts (nat_le column 65535) (nat_le row 65535) place.0 in
    Some (record {
      column = column;
      row = row;
      plan = plan;
      levels = levels;
      across = leb-true column 65535 each'.0;
      down = leb-true row 65535 each'.1;
      whole = long;
      ranged = place.1;
    })
tile_if column row plan levels long false fits = None

-- A unit reads as the tile with the fields that stand in it, where these are a tile's and the unit is written from them.
unfoldable pub tile_reads : List ℕ → Option Tile
tile_reads u =
    cond (bytes_eq u (tile_words (slice_index u 1) (slice_index u 2) (slice_index u 3) (levels_in u)))
    (tile_if (slice_index u 1) (slice_index u 2) (slice_index u 3) (levels_in u) (levels_in_long u) (is_tile (slice_index u 1) (slice_index u 2) (levels_in u)) refl)
    None

-- how a unit that reads as a tile looks, by its words and ranges alone
pub record TileShape (u : List ℕ) : Type 0 where
  pub kind : get_or u 0 0 ≡ 1
  pub column : get_or u 1 0 ≤ 65535
  pub row : get_or u 2 0 ≤ 65535
  pub levels : (s : ℕ) → s < 112 → is_level (level_at u s) ≡ true

-- Of all units of 32 words of 64 bits, exactly those of that shape read as a tile.
abbrev pub TilesReadExactly : Type 0
TilesReadExactly =
    (u : List ℕ) → length u ≡ 32 → ((i : ℕ) → slice_index u i < 2 ^ 64) → Decides (is_some (tile_reads u)) (TileShape u)
