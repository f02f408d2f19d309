use Rattle.order.specs.Order.{kind_of}
use Rattle.histories.proofs.Main.{a_list_happens}
use Rattle.histories.proofs.a_list_happens.Goals as goal

pub returns : goal.returns
returns g c =
    a_list_happens (kind_of g.K.RecordKind.unit g.K.RecordKind.reads)
    (record {
      whole = g.met.K.RecordKind.whole;
      nonzero = g.met.K.RecordKind.nonzero;
      back = g.met.K.RecordKind.back;
      only = g.met.K.RecordKind.only;
    })
