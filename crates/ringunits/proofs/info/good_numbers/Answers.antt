use Rattle.std.proofs.Common.{◌≡◌, ◌+◌, true, false, get_or, drop, sym, ap, ◌∙◌}
use Rattle.std.proofs.lemmas.List.{take_rest}
use Rattle.ringlaws.specs.TxnInfo.{member}
use Rattle.ringunits.proofs.Scans.{member_any, numbers_on, numbers_high, numbers_again, numbers_end}
use Rattle.ringunits.proofs.info.good_numbers.Goals as goal

pub returns-then-numbers-i : goal.returns-then-numbers-i
returns-then-numbers-i c = numbers_high c.args.numbers.now c.loop-i.i c.args.blocks c.loop-i-test.true c.if-numbers-i.true c.loop-i.invariant

pub returns-then-contains : goal.returns-then-contains
returns-then-contains c =
    let xs = c.args.numbers.now in
    let i = c.loop-i.i in
    let again : member (get_or xs i 0) (drop (i + 1) xs) ≡ true = ap (member (get_or xs i 0)) (sym (take_rest xs (i + 1))) ∙ sym (member_any _ _) ∙ sym c.contains.ensures.value ∙ c.if-contains.true in
    numbers_again xs i c.args.blocks c.loop-i-test.true again c.loop-i.invariant

pub loop-i-preserved : goal.loop-i-preserved
loop-i-preserved c =
    let xs = c.args.numbers.now in
    let i = c.loop-i.i in
    let once : member (get_or xs i 0) (drop (i + 1) xs) ≡ false = ap (member (get_or xs i 0)) (sym (take_rest xs (i + 1))) ∙ sym (member_any _ _) ∙ sym c.contains.ensures.value ∙ c.if-contains.false in
    numbers_on xs i c.args.blocks c.loop-i-test.true c.if-numbers-i.false once c.loop-i.invariant

pub returns : goal.returns
returns c = numbers_end c.args.numbers.now c.loop-i.i c.args.blocks c.loop-i-test.false c.loop-i.invariant
