use Rattle.order.specs.Order.{kind_of}
use Rattle.book.proofs.Main.{every_run_keeps_the_book}
use Rattle.book.proofs.every_run_keeps_the_book.Goals as goal

pub returns : goal.returns
returns g c =
    every_run_keeps_the_book (kind_of g.K.RecordKind.unit g.K.RecordKind.reads)
    (record {
      whole = g.met.K.RecordKind.whole;
      nonzero = g.met.K.RecordKind.nonzero;
      back = g.met.K.RecordKind.back;
      only = g.met.K.RecordKind.only;
    })
