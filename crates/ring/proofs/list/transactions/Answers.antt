use Rattle.std.proofs.Common.{◌≡◌, ◌++◌, ◌∷◌, [], vec_items, rules, refl, ◌∙◌, inl, inr, arith}
use Rattle.std.proofs.lemmas.Result.{err_from_is_err_and}
use Rattle.ring.specs.Walks.{no_ring, handed_on}
use Rattle.ring.proofs.Walking.{where_none, where_some}
use Rattle.ring.proofs.Listing.{kept_on, kept_all}
use Rattle.ring.proofs.list.transactions.Goals as goal

pub returns-in_err-walk : goal.returns-in_err-walk
returns-in_err-walk g c =
    let p = err_from_is_err_and c.from_residual.result c.from_residual.ensures.1 in
    let e = c.in_err-walk.ensures in
    rw (p.1, p.2, e.1) (inr (no_ring e.0))

pub returns-in_err-settings : goal.returns-in_err-settings
returns-in_err-settings g c =
    let w = c.loop-newest_first.walk in
    let i = c.loop-newest_first.invariant in
    let p = err_from_is_err_and c.from_residual-in_err-settings.result c.from_residual-in_err-settings.ensures.1 in rw (p.1, p.2)
    (elim c.in_err-settings.ensures [ inl n ↦ inl n | inr h ↦ inr (handed_on (rw (← i.1) w.valid) h) ])

pub loop-newest_first-preserved : goal.loop-newest_first-preserved
loop-newest_first-preserved g c =
    let w = c.loop-newest_first.walk in
    let i = c.loop-newest_first.invariant in
    let k = c.in_ok-step.ensures.kept in
    let e = where_some _ _ _ _ c.in-Some.is c.in_ok-step.ensures.stepped in
    let s = c.in-Some.step in
    let items : vec_items c.push.new.self ≡ vec_items c.loop-newest_first.newest_first ++ c.in_ok-settings.settings ∷ [] = search rules in (
      k.0 ∙ i.0,
      k.1 ∙ i.1,
      k.2 ∙ i.2,
      rw (k.0, k.1, k.2, e.2, e.3, items)
          (kept_on (g.S.Source.reads w.source.now) _ _ _ _ w.place w.left (vec_items c.loop-newest_first.newest_first) s e.1 e.0 c.in_ok-settings.settings s.count refl (rw (i.0, i.1, ← c.numbers.ensures) c.in_ok-settings.ensures) i.3),
    )

pub returns : goal.returns
returns g c =
    let w = c.loop-newest_first.walk in
    let i = c.loop-newest_first.invariant in
    let over : w.left ≡ 0 = where_none c.in_ok-step.field-0 _ _ (search rules) c.in_ok-step.ensures.stepped in
    rw (← i.0, ← i.1, ← i.2)
    (w.valid, kept_all (g.S.Source.reads w.source.now) _ _ _ _ _ w.left (vec_items c.loop-newest_first.newest_first) w.valid (omega arith) i.3 c.reverse.new.self c.reverse.ensures.items)
