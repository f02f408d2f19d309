-- What the calls of a store promise. Assumes nothing.
use Rattle.std.specs.Prelude.{Bool, true, false, Some, None, Ok, Err, Option, Result}
use Rattle.refusal.specs.declared.reason.Refusal.{Refusal}
use Rattle.refusal.specs.declared.reason.Refusal.TheVariants.{Dark}
use Rattle.calls.specs.declared.call.Call.{Call}
use Rattle.calls.specs.declared.answer.Answer.{Answer}
use Rattle.calls.specs.Plans.{Machine, Kind}
use Rattle.calls.specs.Steps.{Step}
use Rattle.order.specs.Order.{InOrder}

-- what each call meets first: 5 if a device is dark, then the refusal by the state
abbrev pub admission : Bool → Option Refusal → Result (Unit {0}) Refusal
admission true judged = Err Dark
admission false None = Ok tt
admission false (Some e) = Err e

-- What a call promises: it is a step by its plan, and it leaves a store in order as one.
pub record Called {R : Type 0} (kind : Kind R) (m : Machine) (call : Call R) (a : Answer R) (n : Machine) : Type 0 where
  pub step : Step kind m call a n
  pub order : InOrder m → InOrder n
