use Rattle.std.proofs.Common.{◌≡◌, length, ◌∙◌, ap, arith, rules, tests}
use Rattle.std.proofs.lemmas.Bool.Decides.{nat_tests}
use Rattle.std.proofs.lemmas.Iterator.Consumers.{count_from_yields_List}
use Rattle.std.proofs.lemmas.Iterator.Splits.{YieldsList-from_slice_split}
use Rattle.lines.specs.Pieces.{fields_of}
use Rattle.lines.proofs.Cutting.{some_fields, fielded}
use Rattle.lines.proofs.Found.{split_fields}
use Rattle.lines.proofs.split.has_fields.Goals as goal

pub returns-then-count-gt0-clause-count : goal.returns-then-count-gt0-clause-count
returns-then-count-gt0-clause-count c =
    let counted : c.count.result ≡ length (fields_of c.args.line.now) =
    count_from_yields_List _ _ c.count.ensures.ran
    (YieldsList-from_slice_split _ _ c.args.line.now c.split.ensures.rest c.split.ensures.done c.split.ensures.closure (λ x r q k. search (rules, tests)))
    ∙ ap length (split_fields c.args.line.now) in
    grind (arith, nat_tests)

pub returns-else-count-gt0-clause-count : goal.returns-else-count-gt0-clause-count
returns-else-count-gt0-clause-count c = let some = some_fields 9 c.args.line.now in grind (arith, nat_tests)

pub returns-then-count-gt0-clause-law : goal.returns-then-count-gt0-clause-law
returns-then-count-gt0-clause-law c = fielded c.args.line.now

pub returns-else-count-gt0-clause-law : goal.returns-else-count-gt0-clause-law
returns-else-count-gt0-clause-law c = fielded c.args.line.now
