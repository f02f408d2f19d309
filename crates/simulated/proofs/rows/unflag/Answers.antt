use Rattle.std.proofs.Common.{false, refl, arith}
use Rattle.simulated.specs.Lists.{member}
use Rattle.simulated.proofs.Flags.{reflag_more}
use Rattle.simulated.proofs.rows.unflag.Goals as goal

pub loop-b-init : goal.loop-b-init
unfolding member
loop-b-init c b = refl

pub loop-b-preserved : goal.loop-b-preserved
loop-b-preserved c =
    reflag_more c.args.flags.now c.loop-b.flags c.args.queue.now (λ b. false) c.loop-b.b-index (omega arith) (omega (arith, c.requires c.loop-b.b-index (omega arith))) c.loop-b.invariant
