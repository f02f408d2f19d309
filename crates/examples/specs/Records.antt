-- Examples of making records and of their words.
use Rattle.std.specs.Prelude.{◌≡◌, ℕ, List, [], ◌∷◌, replicate, ℤ, pos, neg_ℤ, Some, None, Option}
use Rattle.std.specs.Option.{option_map}
use Rattle.refusal.specs.Numbers.{number_of}
use Rattle.layout.specs.Fields.{word_of}
use Rattle.tile.specs.Tiles.{tile_refusal}
use Rattle.mast.specs.Names.{mast_refusal}
use Rattle.mast.specs.Masts.{byte_of}

-- the number that refuses a tile at this column and row whose samples all have this level, if any does
abbrev pub tile_at : (column row : ℕ) → ℤ → Option ℕ
tile_at column row level = option_map number_of (tile_refusal column row (replicate 112 level))

-- the number that refuses a mast whose name is this byte, n times, if any does
abbrev pub mast_named : (n byte : ℕ) → Option ℕ
mast_named n byte = option_map number_of (mast_refusal (replicate n byte))

-- the bytes of "Ridge"
abbrev pub ridge : List ℕ
ridge = 0x52 ∷ 0x69 ∷ 0x64 ∷ 0x67 ∷ 0x65 ∷ []

pub record RecordExamples : Type 0 where
  pub lowest_passes : tile_at 1 2 (neg_ℤ (pos 2000)) ≡ None
  pub highest_passes : tile_at 1 2 (pos 500) ≡ None
  pub below_lowest_is41 : tile_at 1 2 (neg_ℤ (pos 2001)) ≡ Some 41
  pub above_highest_is41 : tile_at 1 2 (pos 501) ≡ Some 41
  pub last_column_and_row_pass : tile_at 65535 65535 (pos 0) ≡ None
  pub column_beyond_is40 : tile_at 65536 0 (pos 0) ≡ Some 40
  pub row_beyond_is40 : tile_at 0 65536 (pos 0) ≡ Some 40
  pub column_comes_first : tile_at 65536 0 (pos 501) ≡ Some 40
  pub one_byte_passes : mast_named 1 65 ≡ None
  pub longest_passes : mast_named 232 65 ≡ None
  pub no_byte_is42 : mast_named 0 65 ≡ Some 42
  pub too_long_is42 : mast_named 233 65 ≡ Some 42
  pub length_comes_first : mast_named 233 0x1F ≡ Some 42
  pub control_byte_is43 : mast_named 1 0x1F ≡ Some 43
  pub delete_byte_is43 : mast_named 1 0x7F ≡ Some 43
  pub ridge_is_aname : option_map number_of (mast_refusal ridge) ≡ None
  pub ridge_word : word_of 8 8 (byte_of ridge) 0 ≡ 0x6567646952
