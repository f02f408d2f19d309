use Rattle.crash.proofs.Runs.{stopped_first, stopped_second}
use Rattle.crash.proofs.Pairs.{nvm_performed, disk_performed, nvm_ran}
use Rattle.acting.proofs.Running.{pair_broken, pair_at_last, nvm_halted, disk_halted}
use Rattle.acting.proofs.format.format_devices.Goals as goal

pub returns-in_err-settle_with : goal.returns-in_err-settle_with
returns-in_err-settle_with g c = pair_broken _ c.from_residual.ensures.1 (stopped_first _ c.in_err-settle_with.ensures)

pub returns-in_err-seal : goal.returns-in_err-seal
returns-in_err-seal g c =
    pair_broken _ c.from_residual-in_err-seal.ensures.1
    (stopped_second c.in_ok-settle_with.ensures (stopped_first _ (nvm_halted _ c.in_err-seal.ensures)))

pub returns-in_err-zero_blocks : goal.returns-in_err-zero_blocks
returns-in_err-zero_blocks g c =
    pair_broken _ c.from_residual-in_err-zero_blocks.ensures.1
    (stopped_second c.in_ok-settle_with.ensures
    (stopped_second (nvm_performed _ c.in_ok-seal.ensures) (stopped_first _ (disk_halted _ c.in_err-zero_blocks.ensures))))

pub returns-in_err-store_header : goal.returns-in_err-store_header
returns-in_err-store_header g c =
    pair_broken _ c.from_residual-in_err-store_header.ensures.1
    (stopped_second c.in_ok-settle_with.ensures
    (stopped_second (nvm_performed _ c.in_ok-seal.ensures)
    (stopped_second (disk_performed _ c.in_ok-zero_blocks.ensures) (stopped_first _ (nvm_halted _ c.in_err-store_header.ensures)))))

pub returns : goal.returns
returns g c =
    let r = c.seal-2.result in
    pair_at_last _ _ r c.in_ok-settle_with.ensures
    (pair_at_last _ _ r (nvm_performed _ c.in_ok-seal.ensures)
    (pair_at_last _ _ r (disk_performed _ c.in_ok-zero_blocks.ensures)
    (pair_at_last _ _ r (nvm_performed _ c.in_ok-store_header.ensures) (nvm_ran _ _ _ _ r c.seal-2.ensures))))
