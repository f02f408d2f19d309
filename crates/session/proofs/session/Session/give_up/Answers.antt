use Rattle.std.proofs.Common.{refl}
use Rattle.calls.specs.declared.call.Call.TheVariants as call
use Rattle.session.specs.Machines.{machine_of}
use Rattle.commands.specs.Commands.{abandon}
use Rattle.session.proofs.Speaking.{gave_up, had_none}
use Rattle.session.proofs.session.Session.give_up.Goals as goal

pub returns-in_ok-abandon : goal.returns-in_ok-abandon
returns-in_ok-abandon g c =
    let s = c.in_ok-abandon.ensures in
    (gave_up (machine_of g.N.Nvm.meaning g.D.Disk.meaning c.args.self.now) c.args.self.now.held call.Abandon _ _ (machine_of g.N.Nvm.meaning g.D.Disk.meaning c.abandon.new.self) _ abandon c.if-self.true refl s, s.after_is)

pub returns-else-self : goal.returns-else-self
returns-else-self g c = (had_none (machine_of g.N.Nvm.meaning g.D.Disk.meaning c.args.self.now) c.args.self.now.held c.if-self.false, c.if-self.false)
