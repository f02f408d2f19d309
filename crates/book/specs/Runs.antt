-- Runs of a store: lists of calls and restarts, each call with its answer, and beside them the book. Assumes nothing.
use Rattle.std.specs.Prelude.{◌≡◌, ℕ, zero, suc, Bool, true, false, ◌&&◌, List, [], ◌∷◌, ◌++◌}
use Rattle.std.specs.Str.{bytes_eq}
use Rattle.ringlaws.specs.Layout.{records_of}
use Rattle.ringlaws.specs.Newest.{lay}
use Rattle.calls.specs.declared.call.Call.{Call}
use Rattle.calls.specs.declared.call.Call.TheVariants.{Format, Mount, Begin, Set, Clear, Read, Commit, Abandon, Checkpoint, Close}
use Rattle.calls.specs.declared.answer.Answer.{Answer}
use Rattle.calls.specs.Plans.{Machine, Kind, blocks_of, table_of}
use Rattle.calls.specs.Steps.{Step, MachineRestarted}
use Rattle.book.specs.Book.{Book, next, restarted}

-- a call and its answer, or a restart
pub data Event (R : Type 0) : Type 0 where
  called : Call R → Answer R → Event R
  restart : Event R

-- whether a call is a format; all other calls may follow an accepted format in a run
abbrev pub is_format : {R : Type 0} → Call R → Bool
is_format Format = true
is_format Mount = false
is_format Begin = false
is_format (Set r x) = false
is_format (Clear r) = false
is_format (Read r) = false
is_format Commit = false
is_format Abandon = false
is_format Checkpoint = false
is_format Close = false

-- whether two tables have the same first n records
unfoldable pub same_below : ℕ → (ℕ → List ℕ) → (ℕ → List ℕ) → Bool
same_below zero x y = true
same_below (suc n) x y = bytes_eq (x n) (y n) && same_below n x y

-- Whether a cut commit is there, decided when power returns: it is if the table that the returned devices hold has its list laid
-- over the units. This looks at the book and at what came back, and at nothing that comes later.
abbrev pub is_kept : Book → Machine → Bool
is_kept b m = same_below (records_of (blocks_of m)) (table_of m) (lay b.list b.units)

-- A run from a machine and a book: each call is a step of the machine and takes the book on by its answer; each restart brings
-- the devices back in some allowed way, and the book by what came back. The newest event is the last of the list.
pub data Run {R : Type 0} (kind : Kind R) (m₀ : Machine) (b₀ : Book) : List (Event R) → Machine → Book → Type 0 where
  start : Run kind m₀ b₀ [] m₀ b₀
  asked : {events : List (Event R)} {m n : Machine} {b : Book} {call : Call R} {a : Answer R}
      → Run kind m₀ b₀ events m b → is_format call ≡ false → Step kind m call a n
      → Run kind m₀ b₀ (events ++ called call a ∷ []) n (next kind b call a)
  returned : {events : List (Event R)} {m n : Machine} {b : Book}
      → Run kind m₀ b₀ events m b → MachineRestarted m n
      → Run kind m₀ b₀ (events ++ restart ∷ []) n (restarted b (is_kept b n))
