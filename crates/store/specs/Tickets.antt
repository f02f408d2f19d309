-- What a commit answers, and what becomes of its ticket. Assumes nothing.
use Rattle.std.specs.Prelude.{◌≡◌, ℕ, true, false, Ok, Err, Result}
use Rattle.calls.specs.declared.answer.Answer.{Answer}
use Rattle.calls.specs.declared.answer.Answer.TheVariants.{Refused, Used}
use Rattle.store.specs.declared.ticket.NotCommitted.{NotCommitted}
use Rattle.store.specs.declared.ticket.NotCommitted.TheVariants.{Back, Spent}
use Rattle.store.specs.Returned.{hands_back}

-- the places used, or the refusal, with or without the ticket
abbrev pub commit_answer : {R : Type 0} → Result ℕ NotCommitted → Answer R
commit_answer (Ok places) = Used places
commit_answer (Err (Back e ticket)) = Refused e
commit_answer (Err (Spent e)) = Refused e

-- a refusal that hands the ticket back hands it back unspent, and no other does
abbrev pub TicketOf : Result ℕ NotCommitted → Type 0
TicketOf (Ok places) = Unit {0}
TicketOf (Err (Back e ticket)) = (hands_back e ≡ true) × (ticket.live ≡ 1)
TicketOf (Err (Spent e)) = hands_back e ≡ false
