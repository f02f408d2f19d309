-- Two kinds joined: a record is written as its own kind writes it, and word 0 says which kind a unit is read as.
use Rattle.std.specs.Prelude.{ℕ, cond, List, Option, ◌==◌, slice_index}
use Rattle.std.specs.Option.{option_map}
use Rattle.tile.specs.Tiles.{tile_unit, tile_reads}
use Rattle.mast.specs.Masts.{mast_unit, mast_reads}
use Rattle.joined.specs.declared.record.Joined.{Joined}
use Rattle.joined.specs.declared.record.Joined.TheVariants.{Tile, Mast}

abbrev pub joined_unit : Joined → List ℕ
joined_unit (Tile t) = tile_unit t
joined_unit (Mast m) = mast_unit m

abbrev pub joined_reads : List ℕ → Option Joined
joined_reads u = cond (slice_index u 0 == 1) (option_map Tile (tile_reads u)) (option_map Mast (mast_reads u))
