use Rattle.std.proofs.Common.{[], ◌∷◌, replicate}
use Rattle.device.specs.Sectors.{Write, disk_rules}
use Rattle.crash.specs.Runs.{each_of}
use Rattle.crash.specs.Acts.{PerformedOn}
use Rattle.acting.proofs.blocks.write_zeros.Given as goal

abbrev pub invariant-loop-block : goal.invariant-loop-block
invariant-loop-block g l =
    let m = g.D.Disk.meaning in
    PerformedOn disk_rules (m l.initial.disk) (each_of (λ b. Write b (replicate 512 0) ∷ []) l.block) (m l.disk)
