use Rattle.device.specs.Words.{words_of}
use Rattle.checkpointing.proofs.Sweeping.{going_start, going_on, going_broken, going_counted, going_end, going_cut}
use Rattle.acting.proofs.Running.{broken}
use Rattle.checkpointing.proofs.blocks.write_homes.Goals as goal

pub loop-block-init : goal.loop-block-init
loop-block-init g c = going_start c.args.rows.now (words_of (g.N.Nvm.meaning c.args.nvm.now)) (g.D.Disk.meaning c.args.disk.now) c.args.blocks

pub loop-block-preserved : goal.loop-block-preserved
loop-block-preserved g c = going_on _ _ _ c.loop-block.invariant c.in-Some.block c.in-Some.ensures _ c.in_ok-write_block.ensures

pub returns-in_err-write_block-clause-ran : goal.returns-in_err-write_block-clause-ran
returns-in_err-write_block-clause-ran g c =
    broken _ c.from_residual.ensures.1 (going_broken _ _ _ c.loop-block.invariant c.in-Some.block c.in-Some.ensures _ _ c.in_err-write_block.ensures)

pub returns-in_err-sync-clause-ran : goal.returns-in_err-sync-clause-ran
returns-in_err-sync-clause-ran g c =
    broken _ c.from_residual-in_err-sync.ensures.1 (going_cut _ _ _ c.loop-block.invariant c.in_default.ensures _ _ c.in_err-sync.ensures)

pub returns-clause-ran : goal.returns-clause-ran
returns-clause-ran g c = going_end _ _ _ c.loop-block.invariant c.in_default.ensures _ c.in_ok-sync.ensures

pub returns-clause-counted : goal.returns-clause-counted
returns-clause-counted g c = going_counted _ _ _ c.loop-block.invariant c.in_default.ensures
