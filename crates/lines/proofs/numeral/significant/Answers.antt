use Rattle.std.proofs.Common.{◌≡◌, None, Some, rules, tests}
use Rattle.std.proofs.lemmas.Iterator.{IsFirst-from_position, YieldsList-from_slice}
use Rattle.lines.proofs.Reading.{behind_zeros, one_zero}
use Rattle.lines.proofs.numeral.significant.Goals as goal

pub returns-in-Some-clause-same : goal.returns-in-Some-clause-same
returns-in-Some-clause-same c =
    let first = IsFirst-from_position _ _ (Some c.in-Some.zeros) (λ x. x ≡ 48 → ⊥) (λ x. x ≡ 48) c.in-Some.ensures.ran (YieldsList-from_slice _ c.iter.ensures.rest) (λ x q k. search (rules, tests)) (λ x q k. search (rules, tests)) in
    behind_zeros c.args.word.now c.in-Some.zeros first.0 first.2

pub returns-in-None-clause-same : goal.returns-in-None-clause-same
returns-in-None-clause-same c =
    one_zero c.args.word.now c.min.result c.min.ensures
    (IsFirst-from_position _ _ None (λ x. x ≡ 48 → ⊥) (λ x. x ≡ 48) c.in-None.ensures.ran (YieldsList-from_slice _ c.iter.ensures.rest) (λ x q k. search (rules, tests)) (λ x q k. search (rules, tests)))
