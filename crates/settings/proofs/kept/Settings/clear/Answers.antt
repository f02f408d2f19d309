use Rattle.std.proofs.Common.{refl, ap, ◌∙◌}
use Rattle.ringlaws.specs.TxnInfo.{numbers_of, distinct}
use Rattle.settings.proofs.kept.Settings.clear.Goals as goal

pub invariant_of-self-clause-apart : goal.invariant_of-self-clause-apart
unfolding distinct
invariant_of-self-clause-apart c = ap (λ t. distinct (numbers_of t)) c.clear.ensures.items ∙ refl
