use Rattle.std.proofs.Common.{◌<◌, arith}
use Rattle.std.proofs.lemmas.Result.{err_from_is_err_and}
use Rattle.ring.proofs.Walking.{stays, decides_on, decides_stop}
use Rattle.ring.proofs.walk.Walk.step.Goals as goal

pub returns-in_err-step-clause-stepped : goal.returns-in_err-step-clause-stepped
returns-in_err-step-clause-stepped g c =
    let w = c.args.self.now in
    let some : 0 < w.left = let n = c.if-self-eq0.false in omega arith in
    let p = err_from_is_err_and c.from_residual.result c.from_residual.ensures.1 in
    rw (p.1, p.2) (decides_stop (g.S.Source.reads w.source.now) w.ring.places w.blocks w.ring.head w.ring.tail w.place w.left w.decides c.in_err-step.field-0.0 w.valid some c.in_err-step.ensures)

pub invariant_of-self : goal.invariant_of-self
invariant_of-self g c =
    let w = c.args.self.now in
    let reads = g.S.Source.reads w.source.now in
    let s = c.in_ok-step.step in
    let st = c.in_ok-step.ensures in
    let some : 0 < w.left = let n = c.if-self-eq0.false in omega arith in
    let k = stays reads w.ring.places w.blocks w.place w.left s st w.inside w.fits in
    record { valid = w.valid; inside = k.0; fits = k.1; decides = decides_on reads w.ring.places w.blocks w.ring.head w.ring.tail w.place w.left w.decides s st some }
