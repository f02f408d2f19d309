use Rattle.std.proofs.Common.{◌≡◌, length, rules, sym, ap, ◌∙◌, arith, length-take-le}
use Rattle.std.proofs.lemmas.Result.{err_from_is_err_and}
use Rattle.ringunits.specs.declared.places.Ring.{Ring}
use Rattle.ringunits.proofs.Rings.{ring}
use Rattle.ring.specs.Walks.{no_ring}
use Rattle.ring.proofs.Walking.{where_none, where_some}
use Rattle.checkpointing.proofs.Rowing.{gathered_none, gathered_on, gathered_all, step_takes}
use Rattle.checkpointing.proofs.gather.gather.Goals as goal

pub returns-in_err-walk : goal.returns-in_err-walk
returns-in_err-walk g c =
    let p = err_from_is_err_and c.from_residual.result c.from_residual.ensures.1 in
    let e = c.in_err-walk.ensures in
    rw (p.1, p.2, e.1) (no_ring e.0)

pub loop-step-init : goal.loop-step-init
loop-step-init g c =
    let w = c.in_ok-walk.walk in
    let k = c.in_ok-walk.ensures in
    let most = (ring w.ring.places w.ring.head w.ring.tail w.valid).most in
    rw c.clear.ensures (
      k.0,
      k.1,
      k.2,
      sym k.3,
      omega (arith, most, w.fits),
      rw (k.1, k.3) (gathered_none (g.S.Source.reads w.source.now) c.args.ring.places w.blocks c.args.ring.head c.args.ring.tail w.left k.4),
    )

pub loop-step-preserved : goal.loop-step-preserved
loop-step-preserved g c =
    let w = c.loop-step.walk in
    let i = c.loop-step.invariant in
    let k = c.in_ok-step.ensures.kept in
    let s = c.in-Some.step in
    let e = where_some _ s _ _ c.in-Some.is c.in_ok-step.ensures.stepped in
    let reads = g.S.Source.reads w.source.now in
    let t = step_takes reads w.ring.places w.blocks w.place w.left s e.1 in
    let long : length c.numbers.result.now ≡ s.count = ap length c.numbers.ensures ∙ length-take-le s.count s.info (omega (arith, t.1)) in
    let few = c.add_rows.ensures.long in (
      k.0 ∙ i.0,
      k.1 ∙ i.1,
      k.2 ∙ i.2,
      sym e.2,
      omega (arith, t.3, i.4, few, long, e.3),
      rw (k.0, k.1, e.2, e.3)
          (gathered_on reads w.ring.places w.blocks w.ring.head w.ring.tail c.loop-step.rows c.add_rows.new.rows w.place w.left s e.1 e.0 c.numbers.result.now c.numbers.ensures long i.5
          (λ r. rw (i.1, ← i.3) (c.add_rows.ensures.rows r))),
    )

pub loop-step-smaller : goal.loop-step-smaller
loop-step-smaller g c =
    let w = c.loop-step.walk in
    let e = where_some _ c.in-Some.step _ _ c.in-Some.is c.in_ok-step.ensures.stepped in
    let t = step_takes (g.S.Source.reads w.source.now) w.ring.places w.blocks w.place w.left c.in-Some.step e.1 in
    omega (arith, t.3, e.3)

pub add_rows-requires : goal.add_rows-requires
add_rows-requires g c =
    let w = c.loop-step.walk in
    let i = c.loop-step.invariant in
    let s = c.in-Some.step in
    let e = where_some _ s _ _ c.in-Some.is c.in_ok-step.ensures.stepped in
    let t = step_takes (g.S.Source.reads w.source.now) w.ring.places w.blocks w.place w.left s e.1 in
    let most = (ring w.ring.places w.ring.head w.ring.tail w.valid).most in
    let same : w.ring.places ≡ c.args.ring.places = ap (λ (x : Ring). x.places) i.1 in
    let long : length c.numbers.result.now ≡ s.count = ap length c.numbers.ensures ∙ length-take-le s.count s.info (omega (arith, t.1)) in
    record {
      ring = (omega (arith, i.3, w.inside, same), omega (arith, most, same));
      few = (omega (arith, t.1, long), omega (arith, t.2, long, w.fits, same));
      room = omega (arith, t.2, long, i.4);
    }

pub returns : goal.returns
returns g c =
    let w = c.loop-step.walk in
    let i = c.loop-step.invariant in
    let over : w.left ≡ 0 = where_none c.in_ok-step.field-0 _ _ (search rules) c.in_ok-step.ensures.stepped in
    rw (← i.0, ← i.1) (gathered_all (g.S.Source.reads w.source.now) w.ring.places w.blocks w.ring.head w.ring.tail c.loop-step.rows w.place w.left (omega arith) i.5)
