use Rattle.std.proofs.Common.{◌≡◌, ◌∙◌, ap, sym, arith, rules}
use Rattle.std.proofs.lemmas.Int.{ints}
use Rattle.lines.specs.Numerals.{lowered, raised, level_of}
use Rattle.lines.proofs.Reading.{level_minus, level_plain, lowered_not, lowered_fits, raised_fits, ok_is}
use Rattle.lines.proofs.numeral.level.Goals as goal

pub returns-in_err-number-in-45 : goal.returns-in_err-number-in-45
returns-in_err-number-in-45 c =
    c.from_residual.ensures ∙ sym (level_minus c.args.text.now (search rules) (search rules) ∙ ap lowered (sym c.in_err-number-in-45.ensures.value))

pub returns-in_err-ok-in-45 : goal.returns-in_err-ok-in-45
returns-in_err-ok-in-45 c =
    c.from_residual-in_err-ok-in-45.ensures
    ∙ sym (level_minus c.args.text.now (search rules) (search rules) ∙ (ap lowered (sym c.in_ok-number-in-45.ensures.value)
    ∙ lowered_not c.in_ok-number-in-45.field-0 c.try_from.result c.try_from.ensures c.in_err-ok-in-45.ensures.value))

pub returns-in_ok-ok-in-45 : goal.returns-in_ok-ok-in-45
returns-in_ok-ok-in-45 c =
    let below = ok_is c.try_from.result _ _ _ c.try_from.ensures c.in_ok-ok-in-45.ensures.value in
    let told : c.ok-in-45.result ≡ level_of c.args.text.now =
    c.ok-in-45.ensures.value
    ∙ (lowered_fits c.in_ok-number-in-45.field-0 _ c.try_from-in-45.result c.try_from-in-45.ensures (omega (arith, ints, below.1, below.0.sfits))
    ∙ sym (level_minus c.args.text.now (search rules) (search rules) ∙ ap lowered (sym c.in_ok-number-in-45.ensures.value))) in
    search rules

pub returns-in_err-number-in_default : goal.returns-in_err-number-in_default
returns-in_err-number-in_default c =
    c.from_residual-in_err-number-in_default.ensures ∙ sym (level_plain c.args.text.now (search rules) ∙ ap raised (sym c.in_err-number-in_default.ensures.value))

pub returns-in_ok-number-in_default : goal.returns-in_ok-number-in_default
returns-in_ok-number-in_default c =
    c.ok-in_default.ensures.value
    ∙ (raised_fits c.in_ok-number-in_default.field-0 c.try_from-in_default.result c.try_from-in_default.ensures
    ∙ sym (level_plain c.args.text.now (search rules) ∙ ap raised (sym c.in_ok-number-in_default.ensures.value)))
