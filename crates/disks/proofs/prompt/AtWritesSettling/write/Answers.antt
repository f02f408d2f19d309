use Rattle.device.specs.Sectors.{Write}
use Rattle.disks.specs.State.{disk_state}
use Rattle.disks.proofs.Promptly.{settled_after}
use Rattle.disks.proofs.prompt.AtWritesSettling.write.Goals as goal

pub returns : goal.returns
returns c =
    settled_after (Write c.args.block c.args.buf.now) (disk_state c.args.contents.now) (disk_state c.write.new.self) (disk_state c.settle.new.self) c.in_ok-write.field-0 c.in_ok-write.ensures c.settle.ensures
