use Rattle.std.proofs.Common.{◌≡◌, rules}
use borrow.Author.Tests.{tests}
use Rattle.std.proofs.lemmas.Iterator.{IsFirst-from_position, YieldsList-from_slice}
use Rattle.ring.proofs.Seeking.{index_first}
use Rattle.ring.proofs.find.index_of.Goals as goal

pub returns : goal.returns
returns c =
    let r = c.args.number in
    index_first r c.args.numbers.now c.position.result
    (IsFirst-from_position _ _ _ (λ x. r ≡ x) (λ x. r ≡ x → ⊥) c.position.ensures.ran (YieldsList-from_slice c.args.numbers.now cc)
    (λ x q k. search (rules, tests)) (λ x q k. search (rules, tests)))
