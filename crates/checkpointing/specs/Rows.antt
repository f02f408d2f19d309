-- Rows that say where the records of a ring lie: the record's number and its place, the newest row first. Assumes nothing.
use Rattle.std.specs.Prelude.{◌≡◌, ℕ, zero, suc, ◌+◌, ◌<◌, ◌≤◌, Bool, true, false, cond, List, [], ◌∷◌, map, Some, Option, ◌==◌}
use Rattle.std.specs.Option.{option_map, unwrap_or}
use Rattle.std.specs.List.{find, list_any}
use Rattle.device.specs.Sectors.{DiskAct, Write}
use Rattle.crash.specs.Runs.{each_of}
use Rattle.ringlaws.specs.Layout.{Contents, place_at, home_block}
use Rattle.calls.specs.Table.{home_unit}
use Rattle.checkpointing.specs.declared.rows.Row.{Row}

-- the place in the first row that has the record's number
abbrev pub place_in : List Row → ℕ → Option ℕ
place_in rows r = option_map (λ row. row.place) (find (λ row. r == row.number) rows)

-- each record's place is the place of a unit of a memory of so many units
abbrev pub LieIn : ℕ → List Row → Type 0
LieIn units rows = (r p : ℕ) → place_in rows r ≡ Some p → p + 1 < units

-- the blocks that are home to the rows' records, and whether the block b is one
abbrev pub homes : List Row → List ℕ
homes rows = map (λ row. home_block row.number) rows

abbrev pub is_home : List Row → ℕ → Bool
is_home rows b = list_any (λ home. home == b) (homes rows)

-- no block from `from` on, below the limit, is home to a row's record
abbrev pub NoneHome : List Row → ℕ → ℕ → Type 0
NoneHome rows from limit = (b : ℕ) → from ≤ b → b < limit → is_home rows b ≡ false

-- b is the first block from `from` on, below the limit, that is home to a row's record
pub record Next (rows : List Row) (from limit b : ℕ) : Type 0 where
  pub least : from ≤ b
  pub most : b < limit
  pub home : is_home rows b ≡ true
  pub none : NoneHome rows from b

-- a record's unit: the unit in its place, or where it has none, its home's
abbrev pub unit_from : Contents → Option ℕ → List ℕ → List ℕ
unit_from c place home = unwrap_or (option_map (place_at c) place) home

-- the units of all records, by the place of each, over the homes of a disk
abbrev pub row_units : Contents → (ℕ → Option ℕ) → (ℕ → List ℕ) → ℕ → List ℕ
row_units c place sectors r = unit_from c (place r) (home_unit sectors r)

-- the chosen ones of the blocks below B are written with these words
abbrev pub writing_blocks : (ℕ → Bool) → (ℕ → List ℕ) → ℕ → List DiskAct
writing_blocks chosen words B = each_of (λ b. cond (chosen b) (Write b (words b) ∷ []) []) B

-- how many of the blocks below B are chosen
unfoldable pub chosen_below : (ℕ → Bool) → ℕ → ℕ
chosen_below chosen zero = 0
chosen_below chosen (suc b) = chosen_below chosen b + cond (chosen b) 1 0
