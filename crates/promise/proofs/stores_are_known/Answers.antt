use Rattle.order.specs.Order.{kind_of}
use Rattle.book.specs.Promise.{Lawful}
use Rattle.promise.proofs.Heard.{new_stores_are_known}
use Rattle.promise.proofs.Happened.{runs_are_known, runs_are_told}
use Rattle.promise.proofs.stores_are_known.Goals as goal

pub returns : goal.returns
returns g c =
    let kind = kind_of g.K.RecordKind.unit g.K.RecordKind.reads in
    let lawful : Lawful kind = record {
      whole = g.met.K.RecordKind.whole;
      nonzero = g.met.K.RecordKind.nonzero;
      back = g.met.K.RecordKind.back;
      only = g.met.K.RecordKind.only;
    } in
    record { new = new_stores_are_known kind; ran = runs_are_known kind lawful; told = runs_are_told kind lawful }
