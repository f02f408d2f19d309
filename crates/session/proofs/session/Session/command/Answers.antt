use Rattle.std.proofs.Common.{Some, not, sym, refl, ◌∙◌}
use Rattle.std.proofs.lemmas.Bool.{and_parts, not-true}
use Rattle.session.specs.Machines.{machine_of}
use Rattle.commands.specs.Commands.{asked}
use Rattle.session.specs.Said.{needs_ticket}
use Rattle.session.specs.Lines as spec
use Rattle.session.proofs.Speaking.{spoken, spoken_plainly, ticket_held, said_nothing}
use Rattle.session.proofs.session.Session.command.Goals as goal

pub returns-then-lacks_ticket : goal.returns-then-lacks_ticket
returns-then-lacks_ticket g c =
    let lacks = and_parts (needs_ticket (asked c.args.command)) (not c.args.self.now.held) (sym c.lacks_ticket.ensures ∙ c.if-lacks_ticket.true) in
    said_nothing (machine_of g.N.Nvm.meaning g.D.Disk.meaning c.args.self.now) c.args.self.now.held (Some (asked c.args.command)) _ 23 _ refl refl (spec.ticketless lacks.0 (not-true c.args.self.now.held lacks.1))

pub returns-in-Format : goal.returns-in-Format
returns-in-Format g c =
    spoken_plainly (machine_of g.N.Nvm.meaning g.D.Disk.meaning c.args.self.now) c.args.self.now.held c.args.command _ c.in-Format.is (ticket_held c.args.self.now.held c.lacks_ticket.ensures c.if-lacks_ticket.false c.in-Format.is) _ spec.formats (machine_of g.N.Nvm.meaning g.D.Disk.meaning c.call.new.self) _ c.call.result (λ a. refl) c.call.ensures

pub returns-in-Mount : goal.returns-in-Mount
returns-in-Mount g c =
    spoken_plainly (machine_of g.N.Nvm.meaning g.D.Disk.meaning c.args.self.now) c.args.self.now.held c.args.command _ c.in-Mount.is (ticket_held c.args.self.now.held c.lacks_ticket.ensures c.if-lacks_ticket.false c.in-Mount.is) _ spec.mounts (machine_of g.N.Nvm.meaning g.D.Disk.meaning c.call-in-Mount.new.self) _ c.call-in-Mount.result (λ a. refl) c.call-in-Mount.ensures

pub returns-in-Begin : goal.returns-in-Begin
returns-in-Begin g c =
    spoken (machine_of g.N.Nvm.meaning g.D.Disk.meaning c.args.self.now) c.args.self.now.held c.args.command _ c.in-Begin.is (ticket_held c.args.self.now.held c.lacks_ticket.ensures c.if-lacks_ticket.false c.in-Begin.is) _ spec.begins (machine_of g.N.Nvm.meaning g.D.Disk.meaning c.begin.new.self) _ c.begin.result c.begin.ensures

pub returns-in-Commit : goal.returns-in-Commit
returns-in-Commit g c =
    spoken (machine_of g.N.Nvm.meaning g.D.Disk.meaning c.args.self.now) c.args.self.now.held c.args.command _ c.in-Commit.is (ticket_held c.args.self.now.held c.lacks_ticket.ensures c.if-lacks_ticket.false c.in-Commit.is) _ spec.commits (machine_of g.N.Nvm.meaning g.D.Disk.meaning c.commit.new.self) _ c.commit.result c.commit.ensures

pub returns-in-Abandon : goal.returns-in-Abandon
returns-in-Abandon g c =
    spoken (machine_of g.N.Nvm.meaning g.D.Disk.meaning c.args.self.now) c.args.self.now.held c.args.command _ c.in-Abandon.is (ticket_held c.args.self.now.held c.lacks_ticket.ensures c.if-lacks_ticket.false c.in-Abandon.is) _ spec.abandons (machine_of g.N.Nvm.meaning g.D.Disk.meaning c.abandon.new.self) _ c.abandon.result c.abandon.ensures

pub returns-in-Checkpoint : goal.returns-in-Checkpoint
returns-in-Checkpoint g c =
    spoken_plainly (machine_of g.N.Nvm.meaning g.D.Disk.meaning c.args.self.now) c.args.self.now.held c.args.command _ c.in-Checkpoint.is (ticket_held c.args.self.now.held c.lacks_ticket.ensures c.if-lacks_ticket.false c.in-Checkpoint.is) _ spec.checkpoints (machine_of g.N.Nvm.meaning g.D.Disk.meaning c.call-in-Checkpoint.new.self) _ c.call-in-Checkpoint.result (λ a. refl) c.call-in-Checkpoint.ensures

pub returns-in-Close : goal.returns-in-Close
returns-in-Close g c =
    spoken_plainly (machine_of g.N.Nvm.meaning g.D.Disk.meaning c.args.self.now) c.args.self.now.held c.args.command _ c.in-Close.is (ticket_held c.args.self.now.held c.lacks_ticket.ensures c.if-lacks_ticket.false c.in-Close.is) _ spec.closes (machine_of g.N.Nvm.meaning g.D.Disk.meaning c.call-in-Close.new.self) _ c.call-in-Close.result (λ a. refl) c.call-in-Close.ensures

pub returns-in-Clear : goal.returns-in-Clear
returns-in-Clear g c =
    spoken_plainly (machine_of g.N.Nvm.meaning g.D.Disk.meaning c.args.self.now) c.args.self.now.held c.args.command _ c.in-Clear.is (ticket_held c.args.self.now.held c.lacks_ticket.ensures c.if-lacks_ticket.false c.in-Clear.is) _ spec.clears (machine_of g.N.Nvm.meaning g.D.Disk.meaning c.call-in-Clear.new.self) _ c.call-in-Clear.result (λ a. refl) c.call-in-Clear.ensures

pub returns-in-Show : goal.returns-in-Show
returns-in-Show g c =
    spoken_plainly (machine_of g.N.Nvm.meaning g.D.Disk.meaning c.args.self.now) c.args.self.now.held c.args.command _ c.in-Show.is (ticket_held c.args.self.now.held c.lacks_ticket.ensures c.if-lacks_ticket.false c.in-Show.is) _ spec.reads (machine_of g.N.Nvm.meaning g.D.Disk.meaning c.call-in-Show.new.self) _ c.call-in-Show.result (λ a. refl) c.call-in-Show.ensures
