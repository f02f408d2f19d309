use Rattle.device.specs.Words.{nvm_rules}
use Rattle.crash.proofs.Runs.{stopped_first, stopped_second}
use Rattle.acting.proofs.Running.{acted, broken, at_last}
use Rattle.acting.proofs.commit.Stretch.lay.Goals as goal

pub returns-in_err-store : goal.returns-in_err-store
returns-in_err-store g c = broken _ c.from_residual.ensures.1 (stopped_first _ c.in_err-store.ensures)

pub returns-in_err-flush : goal.returns-in_err-flush
returns-in_err-flush g c = broken _ c.from_residual-in_err-flush.ensures.1 (stopped_second c.in_ok-store.ensures (stopped_first _ c.in_err-flush.ensures))

pub returns : goal.returns
returns g c =
    let r = c.fence.result in
    at_last _ _ r c.in_ok-store.ensures (at_last _ _ r c.in_ok-flush.ensures (acted nvm_rules _ _ _ r c.fence.ensures))
