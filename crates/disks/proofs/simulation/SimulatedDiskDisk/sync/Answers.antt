use Rattle.std.proofs.Common.{refl, inl}
use Rattle.device.specs.Sectors.{Sync, disk_rules}
use Rattle.simulated.proofs.Laws.{acted_by}
use Rattle.disks.specs.State.{disk_state, patient}
use Rattle.disks.proofs.simulation.SimulatedDiskDisk.sync.Goals as goal

pub returns-clause-acted : goal.returns-clause-acted
returns-clause-acted g c = acted_by disk_rules (patient Sync) (disk_state c.args.self.now.contents) Sync (disk_state c.sync.new.self) c.sync.result (λ i. inl refl) c.sync.ensures.0 c.sync.ensures.1
