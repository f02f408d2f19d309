use Rattle.std.proofs.Common.{◌≡◌, ap, sym, ◌∙◌, arith, rules}
use Rattle.lines.specs.Numerals.{word_of}
use Rattle.lines.proofs.Reading.{word_parsed, no_word, no_word_over}
use Rattle.lines.proofs.numeral.number.Goals as goal

pub returns-then-digits-gt-MOST_DIGITS-clause-value : goal.returns-then-digits-gt-MOST_DIGITS-clause-value
returns-then-digits-gt-MOST_DIGITS-clause-value c =
    let digits = c.significant-digits in
    sym (sym digits.ensures.same ∙ no_word_over digits.result.now (omega (arith, c.if-digits-gt-MOST_DIGITS.true)) (digits.ensures.first (omega (arith, c.if-digits-gt-MOST_DIGITS.true))))

pub returns-in_err-without_plus-clause-value : goal.returns-in_err-without_plus-clause-value
returns-in_err-without_plus-clause-value c =
    let digits = c.significant-digits in
    c.from_residual.ensures ∙ (sym (no_word digits.result.now c.in_err-without_plus.ensures) ∙ digits.ensures.same)

pub returns-clause-value : goal.returns-clause-value
returns-clause-value c =
    let text = c.in_ok-without_plus in
    let parsed : c.ok.result ≡ word_of c.args.word.now =
    c.ok.ensures.value
    ∙ (word_parsed text.field-0.now c.parse.result c.parse.ensures.value.0 (search rules)
    ∙ (ap word_of text.ensures.0 ∙ c.significant-digits.ensures.same)) in
    search rules
