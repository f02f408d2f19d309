use Rattle.std.proofs.Common.{◌∙◌, refl}
use Rattle.session.specs.Machines.{machine_of}
use Rattle.session.proofs.Speaking.{came_back, same_return}
use Rattle.session.proofs.session.Session.restart.Goals as goal

pub returns : goal.returns
returns g c =
    let up = c.in_ok-give_up.ensures in
    let back = c.in_ok-ask.ensures in
    came_back (machine_of g.N.Nvm.meaning g.D.Disk.meaning c.args.self.now) c.args.self.now.held (machine_of g.N.Nvm.meaning g.D.Disk.meaning c.give_up.new.self) (machine_of g.N.Nvm.meaning g.D.Disk.meaning c.ask.new.self) c.args.contents c.args.nvm_acts c.args.disk_acts _ _ _ _ _
    up.0 (same_return _ _ c.args.contents _ _ c.comeback.ensures c.comeback-2.ensures) back.answer refl refl (back.ticket ∙ up.1)
