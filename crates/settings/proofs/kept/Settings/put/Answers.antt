use Rattle.std.proofs.Common.{◌<◌, ◌≤◌, length, sym, refl, ap, ◌∙◌, arith}
use Rattle.ringlaws.specs.TxnInfo.{numbers_of, distinct}
use Rattle.settings.specs.Puts.{list_of}
use Rattle.settings.proofs.Positions.{found, missed, within, listed, put_there, put_last, put_apart, passes_again, passes_new, too_many}
use Rattle.settings.proofs.kept.Settings.put.Goals as goal

pub index_mut-requires : goal.index_mut-requires
index_mut-requires c =
    let h = within (found c.args.number c.in-Some.i c.as_slice.result.now (list_of c.args.self.now) c.as_slice.ensures.value c.in-Some.ensures) in
    omega (arith, c.args.self.now.list.ok.0)

pub invariant_of-self-clause-apart : goal.invariant_of-self-clause-apart
invariant_of-self-clause-apart c =
    let t = list_of c.args.self.now in
    let at = found c.args.number c.in-Some.i c.as_slice.result.now t c.as_slice.ensures.value c.in-Some.ensures in
    ap (λ l. distinct (numbers_of l)) (sym (put_there at c.args.unit.now)) ∙ put_apart c.args.number t c.args.unit.now c.args.self.now.apart

pub returns-in-Some : goal.returns-in-Some
returns-in-Some c =
    let t = list_of c.args.self.now in
    let at = found c.args.number c.in-Some.i c.as_slice.result.now t c.as_slice.ensures.value c.in-Some.ensures in
    (passes_again c.args.blocks c.args.number t c.if-number-blocks.false (listed at), sym (put_there at c.args.unit.now))

pub returns-then-len-ge-MOST : goal.returns-then-len-ge-MOST
returns-then-len-ge-MOST c =
    let t = list_of c.args.self.now in
    let fresh = missed c.args.number c.as_slice.result.now t c.as_slice.ensures.value c.in-None.ensures in
    let many : 30 ≤ length t = omega (arith, c.args.self.now.list.ok.0, c.len.ensures, c.if-len-ge-MOST.true) in
    (too_many c.args.blocks c.args.number t c.if-number-blocks.false fresh many, refl)

pub invariant_of-self-in-None-clause-apart : goal.invariant_of-self-in-None-clause-apart
invariant_of-self-in-None-clause-apart c =
    let t = list_of c.args.self.now in
    let fresh = missed c.args.number c.as_slice.result.now t c.as_slice.ensures.value c.in-None.ensures in
    ap (λ l. distinct (numbers_of l)) (c.push_reserved.ensures.items ∙ sym (put_last c.args.number t c.args.unit.now fresh)) ∙ put_apart c.args.number t c.args.unit.now c.args.self.now.apart

pub returns-else-len-ge-MOST : goal.returns-else-len-ge-MOST
returns-else-len-ge-MOST c =
    let t = list_of c.args.self.now in
    let fresh = missed c.args.number c.as_slice.result.now t c.as_slice.ensures.value c.in-None.ensures in
    let few : length t < 30 = omega (arith, c.args.self.now.list.ok.0, c.len.ensures, c.if-len-ge-MOST.false) in
    (passes_new c.args.blocks c.args.number t c.if-number-blocks.false fresh few, c.push_reserved.ensures.items ∙ sym (put_last c.args.number t c.args.unit.now fresh))
