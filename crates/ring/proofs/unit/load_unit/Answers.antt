use Rattle.std.proofs.Common.{◌+◌, ◌*◌, ◌<◌, ◌≢◌, length, sym, ◌∙◌, arith, length-set, get_or-set_other, get_or-set_same, below_more}
use Rattle.ringlaws.proofs.Units.{unit_is}
use Rattle.ring.proofs.unit.load_unit.Goals as goal

pub loop-i-preserved : goal.loop-i-preserved
loop-i-preserved g c =
    let lt : c.loop-i.i < length c.loop-i.word-items = let l = c.loop-i.invariant.0 in omega arith in
    let read = sym c.word.ensures ∙ c.in_ok-word.was in (
      simp length-set c.loop-i.invariant.0,
      (λ d a. below_more _ _
          (λ k i. let ne : k ≢ c.loop-i.i = omega arith in rw get_or-set_other (c.loop-i.invariant.1 d a k i))
          (rw get_or-set_same (sym (a (32 * c.args.unit + c.loop-i.i) c.in_ok-word.field-0 read)))),
    )

pub returns : goal.returns
returns g c = λ d a. unit_is d c.args.unit c.loop-i.word-items c.loop-i.invariant.0 (λ j lt. c.loop-i.invariant.1 d a j (omega arith))
