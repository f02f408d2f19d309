use Rattle.simulated.proofs.Laws.{restarted_by}
use Rattle.nvm_words.specs.Meant.{simulated_nvm}
use Rattle.nvms.proofs.acts.SimulatedNvmNvm.restart.Goals as goal

pub returns-clause-restarted : goal.returns-clause-restarted
returns-clause-restarted g c = restarted_by c.args.how.now c.args.acts (simulated_nvm c.args.self.now.words) (simulated_nvm c.restart.new.self) c.restart.ensures.state
