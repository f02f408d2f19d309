-- What the answer to a line is: the record that was made, its unit and what the unit reads as, or why there is none.
use Rattle.std.specs.Prelude.{◌≡◌, ℕ, cond, List, replicate, ℤ, Some, None, Ok, Err, Option, Result, nat_le}
use Rattle.refusal.specs.declared.reason.Refusal.{Refusal}
use Rattle.refusal.specs.Numbers as refusals
use Rattle.tile.specs.Tiles as tiles
use Rattle.mast.specs.Names as names
use Rattle.joined.specs.declared.record.Joined.{Joined}
use Rattle.joined.specs.Joins.{joined_unit, joined_reads}
use Rattle.commands.specs.Commands as commands
use Rattle.commands.specs.Records.{Fulfils}
use Rattle.workbench.specs.declared.write.RoundTrip.{RoundTrip}
use Rattle.workbench.specs.declared.answer.Done.{Done}
use Rattle.workbench.specs.declared.answer.Complaint.{Complaint}
use Rattle.workbench.specs.declared.answer.Complaint.TheVariants.{Refused, Unknown, TooLong}
use Rattle.workbench.specs.Orders.{Asked, tile, mast}

-- what was done, or why nothing was
abbrev pub Answer : Type 0
Answer = Result Done Complaint

-- the number of a complaint, and of an answer
abbrev pub complaint_number : Complaint → ℕ
complaint_number (Refused why) = refusals.number_of why
complaint_number Unknown = 90
complaint_number TooLong = 91

abbrev pub number_of : Answer → ℕ
number_of (Ok done) = 0
number_of (Err complaint) = complaint_number complaint

-- whether an input of so many bytes is run line by line
abbrev pub input_checked : ℕ → Result (Unit {0}) Complaint
input_checked bytes = cond (nat_le bytes 65536) (Ok tt) (Err TooLong)

-- the record is the tile with these fields and one level for all samples, or the mast with this number and name
abbrev pub IsTile : (column row plan : ℕ) (level : ℤ) → Joined → Type 0
IsTile column row plan level = Fulfils (commands.tile column row plan level)

abbrev pub IsMast : (number : ℕ) (name : List ℕ) → Joined → Type 0
IsMast number name = Fulfils (commands.mast number name)

-- a record went into a unit and came back: the unit is the record's, and it reads as the record
pub record Whole (trip : RoundTrip Joined) : Type 0 where
  pub unit : trip.unit ≡ joined_unit trip.back
  pub reads : joined_reads trip.unit ≡ Some trip.back

-- what is done where a record was written: its number, and the record itself
abbrev pub Kept : ℕ → Joined → Done → Type 0
Kept number value done = (done.number ≡ number) × (done.trip.back ≡ value) × Whole done.trip

-- the complaint is that there is no such record
abbrev pub Refuses : Option Refusal → Complaint → Type 0
Refuses refusal (Refused why) = refusal ≡ Some why
Refuses refusal Unknown = ⊥
Refuses refusal TooLong = ⊥

-- the answer to an order: the record asked for, or the refusal of making it
abbrev pub Follows : ℕ → (Joined → Type 0) → Option Refusal → Answer → Type 0
Follows number Is refusal (Ok done) = (refusal ≡ None) × (done.number ≡ number) × Is done.trip.back × Whole done.trip
Follows number Is refusal (Err complaint) = Refuses refusal complaint

-- the answer to a line, by what the line asks for
abbrev pub Answered : Option Asked → Answer → Type 0
Answered None answer = answer ≡ Err Unknown
Answered (Some (tile number column row plan level)) answer =
    Follows number (IsTile column row plan level) (tiles.tile_refusal column row (replicate 112 level)) answer
Answered (Some (mast number mast' name)) answer = Follows number (IsMast mast' name) (names.mast_refusal name) answer
