use Rattle.std.proofs.Common.{◌≡◌, ◌+◌, ◌*◌, ◌<◌, length, arith}
use Rattle.crash.specs.Rows.{flushing}
use Rattle.crash.proofs.Runs.{loop_none, loop_more, loop_stops}
use Rattle.ringlaws.specs.Layout.{after}
use Rattle.ringlaws.specs.TxnInfo.{taken}
use Rattle.acting.proofs.Running.{broken}
use Rattle.acting.proofs.Laying.{performed_as, halted_as}
use Rattle.acting.proofs.commit.Stretch.flush.Goals as goal

pub loop-k-init : goal.loop-k-init
loop-k-init g c = loop_none _ _

pub loop-k-preserved : goal.loop-k-preserved
loop-k-preserved g c =
    let e : flushing (4 * (c.place.result + 1)) 4 ≡ flushing (4 * (after c.args.self.now.places c.args.self.now.tail c.loop-k.k + 1)) 4 = cc in
    loop_more _ c.loop-k.k c.loop-k.invariant (performed_as e c.in_ok-flush_lines.ensures)

pub returns-in_err-flush_lines : goal.returns-in_err-flush_lines
returns-in_err-flush_lines g c =
    let e : flushing (4 * (c.place.result + 1)) 4 ≡ flushing (4 * (after c.args.self.now.places c.args.self.now.tail c.loop-k.k + 1)) 4 = cc in
    let turn : c.loop-k.k < taken (length c.args.self.now.settings.now) = omega arith in
    broken _ c.from_residual.ensures.1 (loop_stops _ c.loop-k.k _ turn c.loop-k.invariant (halted_as e c.in_err-flush_lines.ensures))
