-- The book: what the reads of a store have to answer, kept by the calls, their answers and the restarts alone. It knows no
-- device. Assumes nothing.
use Rattle.std.specs.Prelude.{ℕ, Bool, true, false, cond, ◌&&◌, List, [], ◌==◌, nat_lt}
use Rattle.refusal.specs.declared.reason.Refusal.{Refusal}
use Rattle.refusal.specs.declared.reason.Refusal.TheVariants.{Dark, NotMounted, NoSuchRecord}
use Rattle.refusal.specs.Numbers.{number_of}
use Rattle.ringlaws.specs.Layout.{records_of}
use Rattle.ringlaws.specs.TxnInfo.{Transaction}
use Rattle.ringlaws.specs.Newest.{lay}
use Rattle.calls.specs.declared.state.State.{State}
use Rattle.calls.specs.declared.state.State.TheVariants.{Unmounted, Idle, Open}
use Rattle.calls.specs.declared.call.Call.{Call}
use Rattle.calls.specs.declared.call.Call.TheVariants.{Format, Mount, Begin, Set, Clear, Read, Commit, Abandon, Checkpoint, Close}
use Rattle.calls.specs.declared.answer.Answer.{Answer}
use Rattle.calls.specs.declared.answer.Answer.TheVariants.{Refused, Done, Used, Blocks, Absent, Found}
use Rattle.calls.specs.Table.{zero_unit}
use Rattle.calls.specs.Plans.{Kind, put, read_unit}

-- The units by record number, the settings of the open transaction, the state, whether a call has answered 5 since the start or
-- the last restart (dark), and whether the first that did was a commit (cut).
pub record Book : Type 0 where
  pub units : ℕ → List ℕ
  pub list : Transaction
  pub state : State
  pub dark : Bool
  pub cut : Bool

-- an accepted format gives zero units, of which reads reach the first 16 × B, an empty list, and the state unmounted
abbrev pub blank : Book
blank = record { units = λ r. zero_unit; list = []; state = Unmounted; dark = false; cut = false }

abbrev pub in_state : Book → State → Book
in_state b s = record { units = b.units; list = b.list; state = s; dark = b.dark; cut = b.cut }

abbrev pub with_list : Book → Transaction → Book
with_list b t = record { units = b.units; list = t; state = b.state; dark = b.dark; cut = b.cut }

abbrev pub with_units : Book → (ℕ → List ℕ) → Book
with_units b units = record { units = units; list = b.list; state = b.state; dark = b.dark; cut = b.cut }

-- what an accepted call makes of the book
abbrev pub accepted : {R : Type 0} → Kind R → Book → Call R → Book
accepted kind b Format = blank
accepted kind b Mount = in_state b Idle
accepted kind b Begin = in_state b Open
accepted kind b (Set r x) = with_list b (put b.list r (kind.unit x))
accepted kind b (Clear r) = with_list b (put b.list r zero_unit)
accepted kind b (Read r) = b
accepted kind b Commit = in_state (with_list (with_units b (lay b.list b.units)) []) Idle
accepted kind b Abandon = in_state (with_list b []) Idle
accepted kind b Checkpoint = b
accepted kind b Close = in_state b Unmounted

abbrev pub is_commit : {R : Type 0} → Call R → Bool
is_commit Format = false
is_commit Mount = false
is_commit Begin = false
is_commit (Set r x) = false
is_commit (Clear r) = false
is_commit (Read r) = false
is_commit Commit = true
is_commit Abandon = false
is_commit Checkpoint = false
is_commit Close = false

-- the first 5 since the start or a restart makes the book dark, and a commit that answers it is cut
abbrev pub darkened : {R : Type 0} → Book → Call R → Book
darkened b call = cond b.dark b (record { units = b.units; list = b.list; state = b.state; dark = true; cut = is_commit call })

-- what a refusal makes of the book: any but 5 changes nothing
abbrev pub refused : {R : Type 0} → Book → Call R → Refusal → Book
refused b call e = cond (number_of e == 5) (darkened b call) b

-- the book after a call and its answer
abbrev pub next : {R : Type 0} → Kind R → Book → Call R → Answer R → Book
next kind b call (Refused e) = refused b call e
next kind b call Done = accepted kind b call
next kind b call (Used n) = accepted kind b call
next kind b call (Blocks n) = accepted kind b call
next kind b call Absent = accepted kind b call
next kind b call (Found x) = accepted kind b call

-- A restart lays the list of a cut commit over the units or does not (`keep`). It empties the list, unmounts the book and ends
-- its darkness.
abbrev pub restarted : Book → Bool → Book
restarted b keep =
    record { units = cond (b.cut && keep) (lay b.list b.units) b.units; list = []; state = Unmounted; dark = false; cut = false }

-- what a read of record r answers in a state, on a disk of B blocks: 21 if unmounted, 31 from 16 × B on, else by the list's unit,
-- failing that by the book's own
abbrev pub read_in : {R : Type 0} → Kind R → ℕ → Book → State → ℕ → Answer R
read_in kind B b Unmounted r = Refused NotMounted
read_in kind B b Idle r = cond (nat_lt r (records_of B)) (read_unit kind (lay b.list b.units r)) (Refused NoSuchRecord)
read_in kind B b Open r = cond (nat_lt r (records_of B)) (read_unit kind (lay b.list b.units r)) (Refused NoSuchRecord)

-- the book's read: 5 if it is dark, else by its state
abbrev pub book_read : {R : Type 0} → Kind R → ℕ → Book → ℕ → Answer R
book_read kind B b r = cond b.dark (Refused Dark) (read_in kind B b b.state r)
