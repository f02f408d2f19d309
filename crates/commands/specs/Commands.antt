-- Which command a line gives: a verb, and as many fields as the verb wants, each of its form. Every other line gives none.
use Rattle.std.specs.Prelude.{ℕ, cond, List, length, ℤ, Some, None, codes, Option, ◌==◌}
use Rattle.std.specs.Str.{bytes_eq}
use Rattle.lines.specs.Pieces.{fields_of}
use Rattle.lines.specs.Fields.{field_at, word_at, level_at}
use Rattle.commands.specs.declared.verb.Verb.{Verb}
use Rattle.commands.specs.declared.verb.Verb.TheVariants as verb
use Rattle.commands.specs.declared.command.Contents.{Contents}
use Rattle.commands.specs.declared.command.Contents.TheVariants.{Old, New}
use Rattle.commands.specs.declared.command.Draft.{Draft}
use Rattle.commands.specs.declared.command.Draft.TheVariants as draft
use Rattle.commands.specs.declared.command.Order.{Order}
use Rattle.commands.specs.declared.command.Command.{Command}
use Rattle.commands.specs.declared.command.Command.TheVariants as command
use Rattle.commands.specs.Verbs.{width, verb_of}

-- the fields of a record to make
pub data Wanted : Type 0 where
  tile : (column row plan : ℕ) (level : ℤ) → Wanted
  mast : (number : ℕ) (name : List ℕ) → Wanted

-- what a line can ask for
pub data Asked : Type 0 where
  format mount begin commit abandon checkpoint close : Asked
  clear show : (number : ℕ) → Asked
  set : (number : ℕ) (wanted : Wanted) → Asked
  restart : (contents : Contents) (nvmActs diskActs : ℕ) → Asked

-- what a draft of the code wants, wherever the bytes of a name stand
abbrev pub wanted : Draft → Wanted
wanted (draft.Tile column row plan level) = tile column row plan level
wanted (draft.Mast number name) = mast number name.now

-- what an order of the code asks for
abbrev pub ordered : Order → Asked
ordered o = set o.record (wanted o.draft)

-- what a command of the code asks for
abbrev pub asked : Command → Asked
asked command.Format = format
asked command.Mount = mount
asked command.Begin = begin
asked command.Commit = commit
asked command.Abandon = abandon
asked command.Checkpoint = checkpoint
asked command.Close = close
asked (command.Clear number) = clear number
asked (command.Show number) = show number
asked (command.Set number fields) = set number (wanted fields)
asked (command.Restart contents nvmActs diskActs) = restart contents nvmActs diskActs

-- `old` or `new`
unfoldable pub contents_of : List ℕ → Option Contents
contents_of field = cond (bytes_eq field (codes "old")) (Some Old) (cond (bytes_eq field (codes "new")) (Some New) None)

-- what is asked where a field was read; where it has another form, nothing is
abbrev pub given : {A : Type 0} → Option A → (A → Option Asked) → Option Asked
given None ask = None
given (Some x) ask = ask x

-- mast, record, number, name
abbrev pub mast_in : List (List ℕ) → Option Asked
mast_in fields = given (word_at fields 1) (λ r. given (word_at fields 2) (λ number. Some (set r (mast number (field_at fields 3)))))

-- tile, record, column, row, plan, level
abbrev pub tile_in : List (List ℕ) → Option Asked
tile_in fields =
    given (word_at fields 1) (λ r. given (word_at fields 2) (λ column. given (word_at fields 3) (λ row.
    given (word_at fields 4) (λ plan. given (level_at fields 5) (λ level. Some (set r (tile column row plan level)))))))

-- restart, old or new, the act numbers of the NVM and of the disk
abbrev pub restart_in : List (List ℕ) → Option Asked
restart_in fields =
    given (contents_of (field_at fields 1)) (λ contents. given (word_at fields 2) (λ nvmActs. given (word_at fields 3) (λ diskActs.
    Some (restart contents nvmActs diskActs))))

-- what a line with this verb asks for, if its fields are of the form that the verb wants
abbrev pub asked_with : Verb → List (List ℕ) → Option Asked
asked_with verb.Format fields = Some format
asked_with verb.Mount fields = Some mount
asked_with verb.Begin fields = Some begin
asked_with verb.Commit fields = Some commit
asked_with verb.Abandon fields = Some abandon
asked_with verb.Checkpoint fields = Some checkpoint
asked_with verb.Close fields = Some close
asked_with verb.Clear fields = given (word_at fields 1) (λ r. Some (clear r))
asked_with verb.Show fields = given (word_at fields 1) (λ r. Some (show r))
asked_with verb.Mast fields = mast_in fields
asked_with verb.Tile fields = tile_in fields
asked_with verb.Restart fields = restart_in fields

-- what fields ask for: the first is a verb, and they are as many as it wants
abbrev pub asked_by : List (List ℕ) → Option Asked
asked_by fields = given (verb_of (field_at fields 0)) (λ v. cond (length fields == width v) (asked_with v fields) None)

-- what a line asks for
abbrev pub command_of : List ℕ → Option Asked
command_of line = asked_by (fields_of line)
