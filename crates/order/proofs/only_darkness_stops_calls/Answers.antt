use Rattle.order.specs.Order.{kind_of}
use Rattle.order.proofs.Accepted.{only_darkness_stops_calls}
use Rattle.order.proofs.only_darkness_stops_calls.Goals as goal

pub returns : goal.returns
returns g c = only_darkness_stops_calls (kind_of g.K.RecordKind.unit g.K.RecordKind.reads)
