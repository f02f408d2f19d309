use Rattle.std.proofs.Common.{◌-◌}
use Rattle.device.specs.Words.{words_of}
use Rattle.checkpointing.proofs.Sweeping.{Going}
use Rattle.checkpointing.proofs.blocks.write_homes.Given as goal

abbrev pub invariant-loop-block : goal.invariant-loop-block
invariant-loop-block g l =
    Going l.rows (words_of (g.N.Nvm.meaning l.nvm)) (g.D.Disk.meaning l.initial.disk) l.blocks l.from l.written (g.D.Disk.meaning l.disk)

abbrev pub decreases-loop-block : goal.decreases-loop-block
decreases-loop-block g l = l.blocks - l.from
