use Rattle.device.specs.Words.{nvm_rules}
use Rattle.crash.proofs.Runs.{stopped_first}
use Rattle.acting.proofs.Running.{acted, broken, at_last}
use Rattle.acting.proofs.memory.settle_units.Goals as goal

pub returns-in_err-flush_lines : goal.returns-in_err-flush_lines
returns-in_err-flush_lines g c = broken _ c.from_residual.ensures.1 (stopped_first _ c.in_err-flush_lines.ensures)

pub returns : goal.returns
returns g c = let r = c.fence.result in at_last _ _ r c.in_ok-flush_lines.ensures (acted nvm_rules _ _ _ r c.fence.ensures)
