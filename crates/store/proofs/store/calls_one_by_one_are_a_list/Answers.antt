use Rattle.order.specs.Order.{kind_of}
use Rattle.store.proofs.Telling.{calls_one_by_one}
use Rattle.store.proofs.store.calls_one_by_one_are_a_list.Goals as goal

pub returns : goal.returns
returns g c =
    calls_one_by_one (kind_of g.K.RecordKind.unit g.K.RecordKind.reads)
    (record {
      whole = g.met.K.RecordKind.whole;
      nonzero = g.met.K.RecordKind.nonzero;
      back = g.met.K.RecordKind.back;
      only = g.met.K.RecordKind.only;
    })
