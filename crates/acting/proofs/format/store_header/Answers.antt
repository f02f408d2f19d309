use Rattle.device.specs.Words.{nvm_rules}
use Rattle.crash.proofs.Runs.{stopped_first, stopped_second}
use Rattle.acting.proofs.Running.{acted, broken, at_last}
use Rattle.acting.proofs.format.store_header.Goals as goal

pub returns-in_err-store_words : goal.returns-in_err-store_words
returns-in_err-store_words g c = broken _ c.from_residual.ensures.1 (stopped_first _ c.in_err-store_words.ensures)

pub returns-in_err-flush_lines : goal.returns-in_err-flush_lines
returns-in_err-flush_lines g c =
    broken _ c.from_residual-in_err-flush_lines.ensures.1
    (stopped_second c.in_ok-store_words.ensures (stopped_first _ c.in_err-flush_lines.ensures))

pub returns : goal.returns
returns g c =
    let r = c.fence.result in
    at_last _ _ r c.in_ok-store_words.ensures (at_last _ _ r c.in_ok-flush_lines.ensures (acted nvm_rules _ _ _ r c.fence.ensures))
