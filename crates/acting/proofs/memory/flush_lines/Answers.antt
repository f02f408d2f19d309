use Rattle.std.proofs.Common.{◌≡◌, ℕ, ◌+◌, subst, arith}
use Rattle.device.specs.Devices.{Performs, Refuses}
use Rattle.device.specs.Words.{nvm_rules, Flush}
use Rattle.crash.proofs.Runs.{loop_none, loop_more, loop_stops, performed_one, stopped_one}
use Rattle.acting.proofs.Running.{broken}
use Rattle.acting.proofs.memory.flush_lines.Goals as goal

pub loop-line-init : goal.loop-line-init
loop-line-init g c = (0, omega arith, loop_none _ _)

pub loop-line-preserved : goal.loop-line-preserved
loop-line-preserved g c =
    let m = g.N.Nvm.meaning in
    let (i, is, ran) = c.loop-line.invariant in
    let step = subst (λ (line : ℕ). Performs nvm_rules (m c.loop-line.nvm) (Flush line) (m c.flush.new.self)) is c.in_ok-flush.ensures in
    (i + 1, omega arith, loop_more _ i ran (performed_one step))

pub returns-in_err-flush : goal.returns-in_err-flush
returns-in_err-flush g c =
    let m = g.N.Nvm.meaning in
    let (i, is, ran) = c.loop-line.invariant in
    let stop = subst (λ (line : ℕ). Refuses nvm_rules (m c.loop-line.nvm) (Flush line) c.in_err-flush.field-0.0 (m c.flush.new.self)) is c.in_err-flush.ensures in
    broken _ c.from_residual.ensures.1 (loop_stops _ i _ (omega arith) ran (stopped_one stop))

pub returns : goal.returns
returns g c =
    let (i, is, ran) = c.loop-line.invariant in
    let e : c.args.count ≡ i = omega arith in
    rw e ran
