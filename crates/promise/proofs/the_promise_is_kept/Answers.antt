use Rattle.order.specs.Order.{kind_of}
use Rattle.book.specs.Promise.{Lawful}
use Rattle.promise.proofs.Heard.{known_stores_keep_the_promise, calls_are_heard, restarts_are_heard}
use Rattle.promise.proofs.the_promise_is_kept.Goals as goal

pub returns : goal.returns
returns g c =
    let kind = kind_of g.K.RecordKind.unit g.K.RecordKind.reads in
    let lawful : Lawful kind = record {
      whole = g.met.K.RecordKind.whole;
      nonzero = g.met.K.RecordKind.nonzero;
      back = g.met.K.RecordKind.back;
      only = g.met.K.RecordKind.only;
    } in
    record {
      upheld = known_stores_keep_the_promise kind lawful;
      calls = calls_are_heard kind lawful;
      restarts = restarts_are_heard kind;
    }
