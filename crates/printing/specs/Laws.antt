-- The printed fields of a record, with a record's number after the verb, are a line that asks for that record.
use Rattle.std.specs.Prelude.{◌≡◌, ℕ, ◌^◌, ◌<◌, List, [], ◌∷◌, replicate, Some, decimal}
use Rattle.lines.specs.Splits.{tabbed}
use Rattle.tile.specs.declared.record.Tile.{Tile}
use Rattle.mast.specs.declared.record.Mast.{Mast}
use Rattle.mast.specs.Masts.{name_of}
use Rattle.joined.specs.declared.record.Joined.TheVariants as joined
use Rattle.commands.specs.Commands.{command_of, set, tile, mast}
use Rattle.commands.specs.Records.{Fulfils}
use Rattle.printing.specs.Texts.{first_level, tile_fields, mast_fields}

-- the fields with a number after the first
abbrev pub numbered : ℕ → List (List ℕ) → List (List ℕ)
numbered r [] = []
numbered r (verb ∷ fields) = verb ∷ decimal r ∷ fields

-- A mast's line asks for the mast: the command's number and name are the mast's, and it is what they are made into.
-- A tile's line asks for the tile with its fields, which is this tile where all of its samples have the level of the first.
pub record RecordsReadBack : Type 0 where
  pub masts : (r : ℕ) (m : Mast) → r < 2 ^ 64 → m.number < 2 ^ 64 → command_of (tabbed (numbered r (mast_fields m))) ≡ Some (set r (mast m.number (name_of m)))
  pub masts_made : (m : Mast) → Fulfils (mast m.number (name_of m)) (joined.Mast m)
  pub tiles : (r : ℕ) (t : Tile) → r < 2 ^ 64 → t.plan < 2 ^ 64 → command_of (tabbed (numbered r (tile_fields t))) ≡ Some (set r (tile t.column t.row t.plan (first_level t)))
  pub tiles_made : (t : Tile) → t.levels ≡ replicate 112 (first_level t) → Fulfils (tile t.column t.row t.plan (first_level t)) (joined.Tile t)
