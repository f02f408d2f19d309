-- The record that is wanted: why it cannot be made, and which record it is.
use Rattle.std.specs.Prelude.{replicate, Option}
use Rattle.refusal.specs.declared.reason.Refusal.{Refusal}
use Rattle.tile.specs.Tiles as tiles
use Rattle.mast.specs.Names as names
use Rattle.mast.specs.Masts as masts
use Rattle.joined.specs.declared.record.Joined.{Joined}
use Rattle.joined.specs.declared.record.Joined.TheVariants.{Tile, Mast}
use Rattle.commands.specs.Commands.{Wanted, tile, mast}

-- why there is no such record, if there is none
abbrev pub why_not : Wanted → Option Refusal
why_not (tile column row plan level) = tiles.tile_refusal column row (replicate 112 level)
why_not (mast number name) = names.mast_refusal name

-- the record has just the wanted fields, a tile the one level at all of its samples
abbrev pub Fulfils : Wanted → Joined → Type 0
Fulfils (tile column row plan level) (Tile t) = tiles.Made column row plan (replicate 112 level) t
Fulfils (tile column row plan level) (Mast m) = ⊥
Fulfils (mast number name) (Tile t) = ⊥
Fulfils (mast number name) (Mast m) = masts.Made number name m
