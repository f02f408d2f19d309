use Rattle.order.specs.Order.{kind_of}
use Rattle.order.proofs.Unchanged.{refusals_change_nothing}
use Rattle.order.proofs.refusals_change_nothing.Goals as goal

pub returns : goal.returns
returns g c = refusals_change_nothing (kind_of g.K.RecordKind.unit g.K.RecordKind.reads)
