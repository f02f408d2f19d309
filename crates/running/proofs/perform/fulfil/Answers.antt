use Rattle.std.proofs.Common.{[], ◌∷◌, sym, subst}
use Rattle.calls.specs.declared.answer.Answer.TheVariants.{Done}
use Rattle.calls.specs.Plans.{Machine}
use Rattle.order.specs.Order.{EndsThere, kind_of}
use Rattle.book.specs.Promise.{Lawful}
use Rattle.engine.specs.Machine.{machine}
use Rattle.engine.proofs.Admitted.{ends}
use Rattle.promise.specs.declared.request.Request.{Request}
use Rattle.promise.specs.Told.{Performs}
use Rattle.promise.proofs.Lists.{no_requests, one_call_more, one_restart_more}
use Rattle.running.proofs.perform.fulfil.Goals as goal

pub returns-in-Call-clause-promise : goal.returns-in-Call-clause-promise
returns-in-Call-clause-promise g c =
    let kind = kind_of g.K.RecordKind.unit g.K.RecordKind.reads in
    let lawful : Lawful kind = record {
      whole = g.met.K.RecordKind.whole;
      nonzero = g.met.K.RecordKind.nonzero;
      back = g.met.K.RecordKind.back;
      only = g.met.K.RecordKind.only;
    } in
    let m : Machine = machine g.N.Nvm.meaning g.D.Disk.meaning c.args.engine.now in
    let there : EndsThere m = ends g.N.Nvm.meaning g.D.Disk.meaning c.args.engine.now g.met.N.Nvm.ends g.met.D.Disk.ends in
    subst (λ (x : Request g.row.K-Record.Denot). Performs kind m (x ∷ []) (c.perform.result ∷ []) (machine g.N.Nvm.meaning g.D.Disk.meaning c.perform.new.engine)) (sym c.in-Call.is)
    (one_call_more kind lawful m m (machine g.N.Nvm.meaning g.D.Disk.meaning c.perform.new.engine) [] [] c.in-Call.call c.perform.result (no_requests kind lawful m) there (λ o. (c.perform.ensures o).step))

pub returns-in-Restart-clause-promise : goal.returns-in-Restart-clause-promise
returns-in-Restart-clause-promise g c =
    let kind = kind_of g.K.RecordKind.unit g.K.RecordKind.reads in
    let lawful : Lawful kind = record {
      whole = g.met.K.RecordKind.whole;
      nonzero = g.met.K.RecordKind.nonzero;
      back = g.met.K.RecordKind.back;
      only = g.met.K.RecordKind.only;
    } in
    let m : Machine = machine g.N.Nvm.meaning g.D.Disk.meaning c.args.engine.now in
    subst (λ (x : Request g.row.K-Record.Denot). Performs kind m (x ∷ []) (Done ∷ []) (machine g.N.Nvm.meaning g.D.Disk.meaning c.restart.new.engine)) (sym c.in-Restart.is)
    (one_restart_more kind lawful m m (machine g.N.Nvm.meaning g.D.Disk.meaning c.restart.new.engine) [] [] c.in-Restart.back (no_requests kind lawful m) c.restart.ensures.restarted)
