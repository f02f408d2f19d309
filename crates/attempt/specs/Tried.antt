-- A setting that is tried in a transaction of its own, and a ticket that is given back. Assumes nothing.
use Rattle.std.specs.Prelude.{◌≡◌, ℕ, Some, None, Ok, Option, Result}
use Rattle.refusal.specs.declared.reason.Refusal.{Refusal}
use Rattle.calls.specs.declared.call.Call.TheVariants.{Begin, Set, Abandon}
use Rattle.calls.specs.declared.answer.Answer.{Answer}
use Rattle.calls.specs.declared.answer.Answer.TheVariants.{Done}
use Rattle.calls.specs.Plans.{Machine, Kind}
use Rattle.calls.specs.Steps.{Step}
use Rattle.calling.specs.Seen.{done_answer}

-- Begin is refused, and that is the answer; or a transaction begins, sets the record, which gives the answer, and is abandoned.
pub data Tried {R : Type 0} (kind : Kind R) (m : Machine) (number : ℕ) (x : R) (r : Result (Unit {0}) Refusal) (n : Machine) : Type 0 where
  not_begun : Step kind m Begin (done_answer r) n → Tried kind m number x r n
  begun : {begun set : Machine} {last : Answer R} → Step kind m Begin Done begun → Step kind begun (Set number x) (done_answer r) set → Step kind set Abandon last n
      → Tried kind m number x r n

-- Where no ticket is held nothing is done; else the transaction is abandoned.
abbrev pub GivenBack : {R T : Type 0} → Kind R → Option T → Machine → Result (Unit {0}) Refusal → Machine → Type 0
GivenBack kind None m r n = (r ≡ Ok tt) × (n ≡ m)
GivenBack kind (Some t) m r n = Step kind m Abandon (done_answer r) n
