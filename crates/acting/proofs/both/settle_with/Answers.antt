use Rattle.device.specs.Sectors.{disk_rules}
use Rattle.crash.proofs.Runs.{stopped_first}
use Rattle.crash.proofs.Pairs.{nvm_performed, disk_ran}
use Rattle.acting.proofs.Running.{acted, pair_broken, pair_at_last, nvm_halted}
use Rattle.acting.proofs.both.settle_with.Goals as goal

pub returns-in_err-settle_units : goal.returns-in_err-settle_units
returns-in_err-settle_units g c = pair_broken _ c.from_residual.ensures.1 (stopped_first _ (nvm_halted _ c.in_err-settle_units.ensures))

pub returns : goal.returns
returns g c =
    let r = c.sync.result in
    pair_at_last _ _ r (nvm_performed _ c.in_ok-settle_units.ensures) (disk_ran _ _ _ _ r (acted disk_rules _ _ _ r c.sync.ensures))
