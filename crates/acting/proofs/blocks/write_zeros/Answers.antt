use Rattle.std.proofs.Common.{arith}
use Rattle.crash.proofs.Runs.{loop_none, loop_more, loop_stops, performed_one, stopped_one}
use Rattle.acting.proofs.Running.{broken}
use Rattle.acting.proofs.blocks.write_zeros.Goals as goal

pub loop-block-init : goal.loop-block-init
loop-block-init g c = loop_none _ _

pub loop-block-preserved : goal.loop-block-preserved
loop-block-preserved g c = loop_more _ c.loop-block.block c.loop-block.invariant (performed_one c.in_ok-write.ensures)

pub returns-in_err-write : goal.returns-in_err-write
returns-in_err-write g c =
    broken _ c.from_residual.ensures.1 (loop_stops _ c.loop-block.block _ (omega arith) c.loop-block.invariant (stopped_one c.in_err-write.ensures))
