-- What is known of a store from what was asked of it and what it answered. Assumes nothing.
use Rattle.std.specs.Prelude.{Bool, true, false, cond, ◌||◌, List, [], ◌∷◌, ◌++◌}
use Rattle.calls.specs.declared.state.State.{State}
use Rattle.calls.specs.declared.state.State.TheVariants.{Unmounted, Idle, Open}
use Rattle.calls.specs.declared.call.Call.{Call}
use Rattle.calls.specs.declared.call.Call.TheVariants.{Format}
use Rattle.calls.specs.declared.answer.Answer.{Answer}
use Rattle.calls.specs.declared.answer.Answer.TheVariants.{Done}
use Rattle.calls.specs.Plans.{Machine, Kind}
use Rattle.calls.specs.Steps.{Step}
use Rattle.order.specs.Order.{InOrder, EndsThere}
use Rattle.book.specs.Book.{Book, blank, next, restarted}
use Rattle.book.specs.Runs.{Event, called, restart, Run, is_format, is_kept}
use Rattle.book.specs.Commits.{is_accepted}

-- Nothing is known as long as no format of its own was accepted; from then on, the events since that format, and the book.
pub data History (R : Type 0) : Type 0 where
  unknown : History R
  since : List (Event R) → Book → History R

abbrev pub is_mounted : State → Bool
is_mounted Unmounted = false
is_mounted Idle = true
is_mounted Open = true

-- a dark or mounted book bars a format: it is refused, and nothing changes
abbrev pub barred : Book → Bool
barred b = b.dark || is_mounted b.state

-- A refused format that the book did not bar was cut by power at one of its acts: then nothing is known any more.
abbrev pub format_refused : {R : Type 0} → History R → History R
format_refused unknown = unknown
format_refused (since es b) = cond (barred b) (since es b) unknown

-- an accepted format begins a history, whatever was known
abbrev pub format_heard : {R : Type 0} → History R → Answer R → History R
format_heard h a = cond (is_accepted a) (since [] blank) (format_refused h)

-- any other call is one event more, and takes the book on by its answer
abbrev pub call_heard : {R : Type 0} → Kind R → History R → Call R → Answer R → History R
call_heard kind unknown call a = unknown
call_heard kind (since es b) call a = since (es ++ called call a ∷ []) (next kind b call a)

-- what is known after a call and its answer
abbrev pub heard : {R : Type 0} → Kind R → History R → Call R → Answer R → History R
heard kind h call a = cond (is_format call) (format_heard h a) (call_heard kind h call a)

-- what is known after a restart that gave this machine
abbrev pub returned : {R : Type 0} → History R → Machine → History R
returned unknown n = unknown
returned (since es b) n = since (es ++ restart ∷ []) (restarted b (is_kept b n))

-- These events led here: a format was accepted on devices with any contents (beyond their sizes there is nothing to settle, as
-- every device promises), and then the store ran.
pub record Came {R : Type 0} (kind : Kind R) (es : List (Event R)) (b : Book) (m : Machine) : Type 0 where
  pub before : Machine
  pub ends : EndsThere before
  pub first : Machine
  pub format : Step kind before Format Done first
  pub run : Run kind first blank es m b

abbrev pub Past : {R : Type 0} → Kind R → History R → Machine → Type 0
Past kind unknown m = Unit {0}
Past kind (since es b) m = Came kind es b m

-- A history is true of a store: the store is in order, whatever its devices held, and where something is known, it happened.
pub record Known {R : Type 0} (kind : Kind R) (h : History R) (m : Machine) : Type 0 where
  pub order : InOrder m
  pub past : Past kind h m
