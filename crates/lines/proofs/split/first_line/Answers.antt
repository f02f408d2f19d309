use Rattle.std.proofs.Common.{◌≡◌, None, Some, rules, tests}
use Rattle.std.proofs.lemmas.Iterator.{IsFirst-from_position, YieldsList-from_slice}
use Rattle.lines.proofs.Found.{line_found, line_whole}
use Rattle.lines.proofs.split.first_line.Goals as goal

pub returns-in-Some-clause-lines : goal.returns-in-Some-clause-lines
returns-in-Some-clause-lines c =
    line_found c.args.text.now c.in-Some.end
    (IsFirst-from_position _ _ (Some c.in-Some.end) (λ x. x ≡ 10) (λ x. x ≡ 10 → ⊥) c.in-Some.ensures.ran (YieldsList-from_slice _ c.iter.ensures.rest) (λ x q k. search (rules, tests)) (λ x q k. search (rules, tests)))

pub returns-in-None-clause-lines : goal.returns-in-None-clause-lines
returns-in-None-clause-lines c =
    line_whole c.args.text.now (search rules)
    (IsFirst-from_position _ _ None (λ x. x ≡ 10) (λ x. x ≡ 10 → ⊥) c.in-None.ensures.ran (YieldsList-from_slice _ c.iter.ensures.rest) (λ x q k. search (rules, tests)) (λ x q k. search (rules, tests)))
