use Rattle.order.specs.Order.{kind_of}
use Rattle.order.proofs.Kept.{calls_keep_order}
use Rattle.order.proofs.calls_keep_order.Goals as goal

pub returns : goal.returns
returns g c = record {
  units = g.met.K.RecordKind.whole;
  order = calls_keep_order (kind_of g.K.RecordKind.unit g.K.RecordKind.reads);
}
