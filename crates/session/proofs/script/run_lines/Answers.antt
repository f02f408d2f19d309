use Rattle.std.proofs.Common.{refl, arith}
use Rattle.session.proofs.Going.{begun, onward}
use Rattle.session.proofs.script.run_lines.Goals as goal

pub loop-split-init : goal.loop-split-init
loop-split-init g c = (omega arith, λ free. begun _ c.args.input.now _ _ c.new-out.ensures.items free)

pub loop-split-preserved : goal.loop-split-preserved
loop-split-preserved g c =
    let so_far = c.loop-split.invariant.0 in
    let shorter = c.in-Some.ensures.shorter in (
      omega (arith, so_far, shorter),
      (λ free. onward _ c.args.input.now c.loop-split.rest.now c.in-Some.split.rest.now c.in-Some.split.line.now c.loop-split.number _ _ _ _ _ _ _
          (c.loop-split.invariant.1 free) c.in-Some.ensures.lines refl c.in_ok-run_line.ensures),
    )
