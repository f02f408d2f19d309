-- Which order a line gives: a verb, and as many fields as the verb wants, each of its form. Every other line gives none.
use Rattle.std.specs.Prelude.{ℕ, Bool, cond, ◌&&◌, List, length, ℤ, Some, None, codes, Option, ◌==◌}
use Rattle.std.specs.Str.{bytes_eq}
use Rattle.lines.specs.Fields.{field_at, word_at, level_at}
use Rattle.commands.specs.declared.command.Order.{Order}
use Rattle.commands.specs.Commands.{Wanted, wanted}
use Rattle.commands.specs.Commands as commands

-- what is asked for: a tile or a mast, and the number of its record
pub data Asked : Type 0 where
  tile : (number column row plan : ℕ) (level : ℤ) → Asked
  mast : (number mast : ℕ) (name : List ℕ) → Asked

-- a wanted record, asked for under a number
abbrev pub asked_of : ℕ → Wanted → Asked
asked_of r (commands.tile column row plan level) = tile r column row plan level
asked_of r (commands.mast number name) = mast r number name

-- what an order of the code asks for, wherever the bytes of a name stand
abbrev pub asked : Order → Asked
asked o = asked_of o.record (wanted o.draft)

-- the line has so many fields, and the first is the verb
abbrev pub is_form : List ℕ → ℕ → List (List ℕ) → Bool
is_form verb count fields = length fields == count && bytes_eq (field_at fields 0) verb

-- what is asked where a number was read; where none was, nothing is
abbrev pub given : {A : Type 0} → Option A → (A → Option Asked) → Option Asked
given None ask = None
given (Some x) ask = ask x

-- tile, record, column, row, plan, level
abbrev pub tile_in : List (List ℕ) → Option Asked
tile_in fields =
    given (word_at fields 1) (λ number. given (word_at fields 2) (λ column. given (word_at fields 3) (λ row.
    given (word_at fields 4) (λ plan. given (level_at fields 5) (λ level. Some (tile number column row plan level))))))

-- mast, record, number, name
abbrev pub mast_in : List (List ℕ) → Option Asked
mast_in fields = given (word_at fields 1) (λ number. given (word_at fields 2) (λ mast'. Some (mast number mast' (field_at fields 3))))

unfoldable pub asked_by : List (List ℕ) → Option Asked
asked_by fields = cond (is_form (codes "tile") 6 fields) (tile_in fields) (cond (is_form (codes "mast") 4 fields) (mast_in fields) None)
