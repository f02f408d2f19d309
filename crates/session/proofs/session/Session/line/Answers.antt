use Rattle.commands.specs.Commands.{command_of}
use Rattle.std.proofs.Common.{refl}
use Rattle.session.specs.Machines.{machine_of}
use Rattle.session.proofs.Speaking.{another_form}
use Rattle.session.proofs.session.Session.line.Goals as goal

pub returns-in-None : goal.returns-in-None
returns-in-None g c =
    another_form (machine_of g.N.Nvm.meaning g.D.Disk.meaning c.args.self.now) c.args.self.now.held (command_of c.args.line.now) _ _ c.in-None.ensures refl refl
