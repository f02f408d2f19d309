-- The text of a line of the output: its fields with a tab between each two, and a newline.
use Rattle.std.specs.Prelude.{ℕ, cond, ◌||◌, List, [], ◌∷◌, ◌++◌, ℤ, pos, codes, decimal, ◌==◌, slice_index_or}
use Rattle.std.specs.Fmt.{signed_decimal}
use Rattle.lines.specs.Splits.{tabbed}
use Rattle.tile.specs.declared.record.Tile.{Tile}
use Rattle.mast.specs.declared.record.Mast.{Mast}
use Rattle.mast.specs.Masts.{name_of}
use Rattle.joined.specs.declared.record.Joined.{Joined}
use Rattle.joined.specs.declared.record.Joined.TheVariants as joined
use Rattle.printing.specs.declared.detail.Detail.{Detail}
use Rattle.printing.specs.declared.detail.Detail.TheVariants.{Nothing, Count, Absent, Record}

-- the level of a tile's first sample
abbrev pub first_level : Tile → ℤ
first_level t = slice_index_or t.levels 0 (pos 0)

-- a tile: the verb, the column, the row, the plan and the level of sample 0
abbrev pub tile_fields : Tile → List (List ℕ)
tile_fields t = codes "tile" ∷ decimal t.column ∷ decimal t.row ∷ decimal t.plan ∷ signed_decimal (first_level t) ∷ []

-- a mast: the verb, the number and the name
abbrev pub mast_fields : Mast → List (List ℕ)
mast_fields m = codes "mast" ∷ decimal m.number ∷ name_of m ∷ []

-- a record, by its kind
abbrev pub record_fields : Joined → List (List ℕ)
record_fields (joined.Tile t) = tile_fields t
record_fields (joined.Mast m) = mast_fields m

-- a detail; where there is nothing to say, a dash
abbrev pub detail_fields : Detail → List (List ℕ)
detail_fields Nothing = codes "-" ∷ []
detail_fields (Count n) = decimal n ∷ []
detail_fields Absent = codes "absent" ∷ []
detail_fields (Record j) = record_fields j

-- the letter of a state: `u` unmounted, `i` idle, `o` open, `d` dark; any other letter is printed as a question mark
abbrev pub state_letter : ℕ → ℕ
state_letter state = cond (state == 117 || (state == 105 || (state == 111 || state == 100))) state 63

-- the number of the line, the state after it, the answer, the detail
abbrev pub line_fields : (number state answer : ℕ) → Detail → List (List ℕ)
line_fields number state answer detail = decimal number ∷ (state_letter state ∷ []) ∷ decimal answer ∷ detail_fields detail

-- the whole line
abbrev pub line_text : (number state answer : ℕ) → Detail → List ℕ
line_text number state answer detail = tabbed (line_fields number state answer detail) ++ codes "\n"
