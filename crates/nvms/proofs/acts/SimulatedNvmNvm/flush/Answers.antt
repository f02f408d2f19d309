use Rattle.device.specs.Words.{Flush}
use Rattle.nvms.proofs.Rooms.{acted}
use Rattle.nvms.proofs.acts.SimulatedNvmNvm.flush.Goals as goal

pub returns-clause-acted : goal.returns-clause-acted
returns-clause-acted g c = acted g.N.Nature.limit c.args.self.now.words c.flush.new.self (Flush c.args.line) c.flush.result g.met.N.Nature.room c.flush.ensures.answer c.flush.ensures.state
