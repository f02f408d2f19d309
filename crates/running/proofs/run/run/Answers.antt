use Rattle.std.proofs.Common.{List, [], sym, subst, arith}
use Rattle.calls.specs.declared.answer.Answer.{Answer}
use Rattle.calls.specs.Plans.{Machine}
use Rattle.order.specs.Order.{kind_of}
use Rattle.book.specs.Promise.{Lawful}
use Rattle.engine.specs.Machine.{machine}
use Rattle.promise.specs.Told.{Performs}
use Rattle.promise.proofs.Lists.{no_requests}
use Rattle.running.proofs.Growing.{one_more, all_done}
use Rattle.running.proofs.run.run.Goals as goal

pub loop-request-init : goal.loop-request-init
loop-request-init g c =
    let kind = kind_of g.K.RecordKind.unit g.K.RecordKind.reads in
    let lawful : Lawful kind = record {
      whole = g.met.K.RecordKind.whole;
      nonzero = g.met.K.RecordKind.nonzero;
      back = g.met.K.RecordKind.back;
      only = g.met.K.RecordKind.only;
    } in
    let m : Machine = machine g.N.Nvm.meaning g.D.Disk.meaning c.args.engine.now in
    let made = c.in_ok-answers.ensures in (
      made.len,
      made.capacity,
      subst (λ (l : List (Answer g.row.K-Record.Denot)). Performs kind m [] l m) (sym made.items) (no_requests kind lawful m),
    )

pub loop-request-preserved : goal.loop-request-preserved
loop-request-preserved g c =
    let long = c.push_reserved.ensures.len in
    let wide = c.push_reserved.ensures.capacity in
    let many = c.loop-request.invariant.0 in
    let room = c.loop-request.invariant.1 in (
      omega (arith, long, many),
      omega (arith, wide, room),
      one_more (kind_of g.K.RecordKind.unit g.K.RecordKind.reads) _ _ _ c.args.requests.now c.loop-request.request-index c.request-item.result _ _ c.fulfil-answer.result
          c.loop-request-test.true c.request-item.is c.push_reserved.ensures.items c.loop-request.invariant.2 c.fulfil-answer.ensures.promise,
    )

pub returns-clause-promise : goal.returns-clause-promise
returns-clause-promise g c =
    all_done (kind_of g.K.RecordKind.unit g.K.RecordKind.reads) _ _ c.args.requests.now c.loop-request.request-index _ c.loop-request-test.false c.loop-request.invariant.2
