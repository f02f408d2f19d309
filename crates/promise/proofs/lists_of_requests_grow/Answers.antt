use Rattle.order.specs.Order.{kind_of}
use Rattle.book.specs.Promise.{Lawful}
use Rattle.promise.proofs.Lists.{no_requests, one_call_more, one_restart_more, lists_join}
use Rattle.promise.proofs.lists_of_requests_grow.Goals as goal

pub returns : goal.returns
returns g c =
    let kind = kind_of g.K.RecordKind.unit g.K.RecordKind.reads in
    let lawful : Lawful kind = record {
      whole = g.met.K.RecordKind.whole;
      nonzero = g.met.K.RecordKind.nonzero;
      back = g.met.K.RecordKind.back;
      only = g.met.K.RecordKind.only;
    } in
    record {
      nothing = no_requests kind lawful;
      call = one_call_more kind lawful;
      restart = one_restart_more kind lawful;
      join = lists_join kind;
    }
