use Rattle.device.specs.Sectors.{disk_rules}
use Rattle.crash.proofs.Runs.{stopped_first}
use Rattle.acting.proofs.Running.{acted, broken, at_last}
use Rattle.acting.proofs.blocks.zero_blocks.Goals as goal

pub returns-in_err-write_zeros : goal.returns-in_err-write_zeros
returns-in_err-write_zeros g c = broken _ c.from_residual.ensures.1 (stopped_first _ c.in_err-write_zeros.ensures)

pub returns : goal.returns
returns g c = let r = c.sync.result in at_last _ _ r c.in_ok-write_zeros.ensures (acted disk_rules _ _ _ r c.sync.ensures)
