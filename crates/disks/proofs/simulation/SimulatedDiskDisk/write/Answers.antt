use Rattle.device.specs.Sectors.{Write, disk_rules}
use Rattle.simulated.proofs.Laws.{acted_by}
use Rattle.disks.specs.State.{disk_state}
use Rattle.disks.proofs.simulation.SimulatedDiskDisk.write.Goals as goal

pub returns-clause-acted : goal.returns-clause-acted
returns-clause-acted g c =
    let a = Write c.args.block c.args.buf.now in
    acted_by disk_rules (g.S.Settling.makes a) (disk_state c.args.self.now.contents) a (disk_state c.write.new.contents) c.write.result (λ i. g.met.S.Settling.settles a i _) c.write.ensures.0 c.write.ensures.1
