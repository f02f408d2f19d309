use Rattle.std.proofs.Common.{ℕ, Ok, Result, refl, ◌∙◌}
use Rattle.refusal.specs.declared.reason.Refusal.{Refusal}
use Rattle.acting.proofs.Running.{broken, pair_broken}
use Rattle.checkpointing.proofs.Ending.{gather_open, rows_lie, count_is, not_so, nothing_ran, nothing_counted, homes_broken, head_ran}
use Rattle.checkpointing.proofs.devices.checkpoint_devices.Goals as goal

pub returns-in_err-gather-clause-ran : goal.returns-in_err-gather-clause-ran
returns-in_err-gather-clause-ran g c ts ready at = absurd (gather_open ready c.in_err-gather.ensures)

pub returns-then-is_empty-clause-ran : goal.returns-then-is_empty-clause-ran
returns-then-is_empty-clause-ran g c ts ready at = nothing_ran c.gather.new.rows c.in_ok-gather.ensures ready (c.if-is_empty.ensures.0 refl)

pub returns-then-is_empty-clause-counted : goal.returns-then-is_empty-clause-counted
returns-then-is_empty-clause-counted g c ts ready = nothing_counted c.gather.new.rows c.in_ok-gather.ensures ready (c.if-is_empty.ensures.0 refl)

pub write_homes-requires-clause-within : goal.write_homes-requires-clause-within
write_homes-requires-clause-within g c = rows_lie c.gather.new.rows c.in_ok-gather.ensures c.in_ok-check_fit.ensures

pub returns-in_err-written-clause-ran : goal.returns-in_err-written-clause-ran
returns-in_err-written-clause-ran g c ts ready at =
    pair_broken _ c.from_residual-in_err-written.ensures.1 (homes_broken c.gather.new.rows c.in_ok-gather.ensures ready (not_so c.if-is_empty.ensures.1) at c.in_err-written.ensures.ran)

pub returns-in_err-seal-clause-ran : goal.returns-in_err-seal-clause-ran
returns-in_err-seal-clause-ran g c ts ready at =
    let r = c.from_residual-in_err-seal.result in
    head_ran c.gather.new.rows c.in_ok-gather.ensures ready (not_so c.if-is_empty.ensures.1) at (g.N.Nvm.meaning c.seal.new.nvm) r c.in_ok-written.ensures.ran (broken r c.from_residual-in_err-seal.ensures.1 c.in_err-seal.ensures)

pub returns-clause-ran : goal.returns-clause-ran
returns-clause-ran g c ts ready at =
    let whole : Result ℕ Refusal = Ok c.in_ok-written.written in
    head_ran c.gather.new.rows c.in_ok-gather.ensures ready (not_so c.if-is_empty.ensures.1) at (g.N.Nvm.meaning c.seal.new.nvm) whole c.in_ok-written.ensures.ran c.in_ok-seal.ensures

pub returns-clause-counted : goal.returns-clause-counted
returns-clause-counted g c ts ready = c.in_ok-written.ensures.counted ∙ count_is c.gather.new.rows c.in_ok-gather.ensures ready
