use Rattle.std.proofs.Common.{◌≡◌, sym, ◌∙◌}
use Rattle.std.proofs.lemmas.Result.{err_from_is_err_and}
use Rattle.ring.specs.Walks.{no_ring}
use Rattle.ring.proofs.Walking.{where_none, decides_sound}
use Rattle.ring.proofs.walk.check.Goals as goal

pub returns-in_err-walk : goal.returns-in_err-walk
returns-in_err-walk g c =
    let p = err_from_is_err_and c.from_residual.result c.from_residual.ensures.1 in
    let e = c.in_err-walk.ensures in
    rw (p.1, p.2, e.1) (no_ring e.0)

pub returns : goal.returns
returns g c =
    let w = c.loop.walk in
    let i = c.loop.invariant in
    let over : w.left ≡ 0 = where_none c.in_ok-step.field-0 _ _ (sym c.is_some.ensures ∙ c.if-is_some.false) c.in_ok-step.ensures.stepped in
    rw (← i.0, ← i.1, ← i.2)
    (w.valid, decides_sound (g.S.Source.reads w.source.now) _ _ _ _ _ _ w.decides over)
