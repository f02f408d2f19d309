-- The ranges of a tile's fields. Assumes nothing.
use Rattle.std.specs.Prelude.{ℕ, Bool, ◌&&◌, List, ℤ, pos, neg_ℤ, int_le, nat_le}
use Rattle.std.specs.List.{list_all}

-- A level, in tenths of a dBm, is from −2,000 to 500. Making, reading and the laws all cite this definition.
abbrev pub is_level : ℤ → Bool
is_level z = int_le (neg_ℤ (pos 2000)) z && int_le z (pos 500)

-- a column and a row are at most 65,535
abbrev pub is_place : (column row : ℕ) → Bool
is_place column row = nat_le column 65535 && nat_le row 65535

-- the fields of a tile
abbrev pub is_tile : (column row : ℕ) → List ℤ → Bool
is_tile column row levels = is_place column row && list_all is_level levels
