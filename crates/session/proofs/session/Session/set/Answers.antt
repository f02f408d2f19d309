use Rattle.std.proofs.Common.{Some, refl}
use Rattle.session.specs.Machines.{machine_of}
use Rattle.commands.specs.Commands.{wanted, set}
use Rattle.session.specs.Lines as spec
use Rattle.session.proofs.Speaking.{spoken_set, said_nothing}
use Rattle.session.proofs.session.Session.set.Goals as goal

pub returns-in-Ok : goal.returns-in-Ok
returns-in-Ok g c =
    spoken_set (machine_of g.N.Nvm.meaning g.D.Disk.meaning c.args.self.now) c.args.self.now.held c.args.record (wanted c.args.draft) c.in-Ok.value (machine_of g.N.Nvm.meaning g.D.Disk.meaning c.call.new.self) _ c.call.result c.in-Ok.ensures c.call.ensures

pub returns-in-Err : goal.returns-in-Err
returns-in-Err g c held =
    said_nothing (machine_of g.N.Nvm.meaning g.D.Disk.meaning c.args.self.now) c.args.self.now.held (Some (set c.args.record (wanted c.args.draft))) _ _ _ refl refl (spec.unmade held c.in-Err.ensures)
