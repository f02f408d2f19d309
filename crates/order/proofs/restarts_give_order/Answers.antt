use Rattle.order.proofs.Unchanged.{restarts_give_order}
use Rattle.order.proofs.restarts_give_order.Goals as goal

pub returns : goal.returns
returns c = restarts_give_order
