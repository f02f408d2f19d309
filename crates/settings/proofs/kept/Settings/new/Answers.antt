use Rattle.std.proofs.Common.{◌≡◌, [], rules, refl, ap, ◌∙◌}
use Rattle.ringlaws.specs.TxnInfo.{numbers_of, distinct}
use Rattle.settings.proofs.kept.Settings.new.Goals as goal

pub invariant_of-result-clause-apart : goal.invariant_of-result-clause-apart
unfolding distinct
invariant_of-result-clause-apart c =
    let none : c.in_ok-list.list.items ≡ [] = search rules in
    ap (λ t. distinct (numbers_of t)) none ∙ refl
