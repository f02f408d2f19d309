use Rattle.std.proofs.Common.{◌/◌, cond, ◌&&◌, eqb, get_or, take, refl, ap, ◌∙◌, arith}
use Rattle.simulated.specs.Lists.{member}
use Rattle.disks.specs.Rows.{goes_back}
use Rattle.disks.proofs.Regions.{grown_by, member_more}
use Rattle.disks.proofs.sectors.revert.Goals as goal

pub loop-block-init : goal.loop-block-init
unfolding member
loop-block-init c w = refl

pub loop-block-preserved : goal.loop-block-preserved
loop-block-preserved c w =
    let queue = c.args.queue.now in
    let i = c.loop-block.block-index in
    let p = goes_back c.args.waiting.now c.args.how.now (w / 64) in
    let old = get_or c.args.settled.now w 0 in
    let base = get_or c.args.present.now w 0 in
    c.revert_block.ensures w ∙ grown_by (member (w / 512) (take i queue)) (eqb (w / 512) (get_or queue i 0)) p old base (get_or c.loop-block.present w 0) (c.loop-block.invariant w)
    ∙ ap (λ t. cond (t && p) old base) (member_more (w / 512) queue i (omega arith))
