use Rattle.engine.proofs.Admitted.{carried}
use Rattle.attempt.specs.Tried.{not_begun, begun}
use Rattle.attempt.proofs.try_set.Goals as goal

pub returns-in_err-ticket : goal.returns-in_err-ticket
returns-in_err-ticket g c = not_begun (carried c.from_residual.result c.from_residual.ensures.1 c.in_err-ticket.ensures.call).step

pub returns : goal.returns
returns g c = begun c.in_ok-ticket.ensures.call.step c.set-answer.ensures.step c.abandon.ensures.step
