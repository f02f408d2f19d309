use Rattle.simulated.proofs.Laws.{restarted_by}
use Rattle.disks.specs.State.{disk_state}
use Rattle.disks.proofs.simulation.SimulatedDiskDisk.restart.Goals as goal

pub returns-clause-restarted : goal.returns-clause-restarted
returns-clause-restarted g c = restarted_by c.args.how.now c.args.acts (disk_state c.args.self.now.contents) (disk_state c.restart.new.self) c.restart.ensures
