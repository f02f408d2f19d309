use Rattle.calls.specs.declared.call.Call.TheVariants.{Abandon}
use Rattle.order.specs.Order.{kind_of}
use Rattle.engine.specs.Machine.{machine}
use Rattle.engine.proofs.Admitted.{ends, refused, abandoned}
use Rattle.engine.proofs.engine.Engine.abandon.Goals as goal

pub returns-in_err-admit : goal.returns-in_err-admit
returns-in_err-admit g c =
    refused (kind_of g.K.RecordKind.unit g.K.RecordKind.reads) g.met.K.RecordKind.whole (machine g.N.Nvm.meaning g.D.Disk.meaning c.args.self.now) (ends g.N.Nvm.meaning g.D.Disk.meaning c.args.self.now g.met.N.Nvm.ends g.met.D.Disk.ends)
    Abandon c.in_err-admit.field-0.0 c.in_err-admit.ensures c.from_residual.result c.from_residual.ensures.1

pub returns : goal.returns
returns g c =
    abandoned (kind_of g.K.RecordKind.unit g.K.RecordKind.reads) g.met.K.RecordKind.whole (machine g.N.Nvm.meaning g.D.Disk.meaning c.args.self.now) (ends g.N.Nvm.meaning g.D.Disk.meaning c.args.self.now g.met.N.Nvm.ends g.met.D.Disk.ends)
    c.in_ok-admit.ensures _ c.clear.ensures
