-- What a line of a script says once it was run: its answer and its detail, the letter of the store's state, and whether a ticket is
-- held after it. Assumes nothing.
use Rattle.std.specs.Prelude.{ℕ, Bool, true, false, cond, ◌||◌}
use Rattle.refusal.specs.Numbers.{number_of}
use Rattle.crash.specs.Pair.{is_dark}
use Rattle.joined.specs.declared.record.Joined.{Joined}
use Rattle.joined.specs.Joins.{joined_unit, joined_reads}
use Rattle.calls.specs.declared.state.State.{State}
use Rattle.calls.specs.declared.state.State.TheVariants.{Unmounted, Idle, Open}
use Rattle.calls.specs.declared.answer.Answer.{Answer}
use Rattle.calls.specs.declared.answer.Answer.TheVariants.{Refused, Done, Used, Blocks, Absent, Found}
use Rattle.calls.specs.Plans.{Machine, Kind}
use Rattle.order.specs.Order.{kind_of}
use Rattle.book.specs.Commits.{is_accepted}
use Rattle.commands.specs.Commands.{Asked, format, mount, begin, commit, abandon, checkpoint, close, clear, show, set, restart}
use Rattle.printing.specs.declared.detail.Detail.{Detail}
use Rattle.printing.specs.declared.detail.Detail.TheVariants as detail
use Rattle.store.specs.Returned.{hands_back}

-- the kind of a script's records: tiles and masts
abbrev pub tiles_and_masts : Kind Joined
tiles_and_masts = kind_of joined_unit joined_reads

-- the number of an answer: 0 if the call was accepted, else its refusal's
abbrev pub number_said : Answer Joined → ℕ
number_said (Refused e) = number_of e
number_said Done = 0
number_said (Used places) = 0
number_said (Blocks blocks) = 0
number_said Absent = 0
number_said (Found x) = 0

-- the detail of an answer: the used places of a commit, the blocks of a mount or a checkpoint, what a read found; else nothing
abbrev pub detail_said : Answer Joined → Detail
detail_said (Refused e) = detail.Nothing
detail_said Done = detail.Nothing
detail_said (Used places) = detail.Count places
detail_said (Blocks blocks) = detail.Count blocks
detail_said Absent = detail.Absent
detail_said (Found x) = detail.Record x

-- the letter of a state: u, i or o
abbrev pub letter_in : State → ℕ
letter_in Unmounted = 117
letter_in Idle = 105
letter_in Open = 111

-- the letter of a store: d where it is dark, else its state's
abbrev pub letter_of : Machine → ℕ
letter_of m = cond (is_dark m.devices) 100 (letter_in m.state)

-- the commands that need a ticket
abbrev pub needs_ticket : Asked → Bool
needs_ticket format = false
needs_ticket mount = false
needs_ticket begin = false
needs_ticket commit = true
needs_ticket abandon = true
needs_ticket checkpoint = false
needs_ticket close = false
needs_ticket (clear r) = true
needs_ticket (show r) = false
needs_ticket (set r w) = true
needs_ticket (restart contents nvmActs diskActs) = false

-- a commit keeps the ticket only if its refusal hands it back
abbrev pub kept_by : Answer Joined → Bool
kept_by (Refused e) = hands_back e
kept_by Done = false
kept_by (Used places) = false
kept_by (Blocks blocks) = false
kept_by Absent = false
kept_by (Found x) = false

-- whether a ticket is held after a command and its answer: an accepted begin hands one out, abandon takes it, a commit keeps it
-- only if it hands it back, a restart abandons it, and the others leave it
abbrev pub held_after : Bool → Asked → Answer Joined → Bool
held_after held format a = held
held_after held mount a = held
held_after held begin a = held || is_accepted a
held_after held commit a = kept_by a
held_after held abandon a = false
held_after held checkpoint a = held
held_after held close a = held
held_after held (clear r) a = held
held_after held (show r) a = held
held_after held (set r w) a = held
held_after held (restart contents nvmActs diskActs) a = false
