-- The answer of a read. Assumes nothing.
use Rattle.std.specs.Prelude.{Some, None, Ok, Err, Option, Result}
use Rattle.refusal.specs.declared.reason.Refusal.{Refusal}
use Rattle.calls.specs.declared.answer.Answer.{Answer}
use Rattle.calls.specs.declared.answer.Answer.TheVariants.{Refused, Absent, Found}

-- the record, or that there is none
abbrev pub read_answer : {R : Type 0} → Result (Option R) Refusal → Answer R
read_answer (Ok None) = Absent
read_answer (Ok (Some x)) = Found x
read_answer (Err e) = Refused e
