use Rattle.std.proofs.Common.{◌≡◌, ℕ, List, Bor, Option, eqb, ap, ◌∙◌, arith, rules, tests}
use Rattle.std.specs.Option.{option_map}
use Rattle.std.specs.List.{slice_get, slice_split}
use Rattle.std.proofs.lemmas.Iterator.Consumers.{nth_from_yields_List}
use Rattle.std.proofs.lemmas.Iterator.Splits.{YieldsList-from_slice_split}
use Rattle.lines.specs.Pieces.{fields_of}
use Rattle.lines.proofs.Found.{split_fields}
use Rattle.lines.proofs.split.field.Goals as goal

taken_at : (r : Option (Bor (List ℕ))) (line : List ℕ) (n k : ℕ) → option_map (λ x. x.now) r ≡ slice_get (slice_split (λ c. eqb c 9) line) n → n ≡ k → option_map (λ x. x.now) r ≡ slice_get (fields_of line) k
taken_at r line n k e same = e ∙ (ap (λ ps. slice_get ps n) (split_fields line) ∙ ap (slice_get (fields_of line)) same)

pub returns : goal.returns
returns c =
    let taken : option_map (λ x. x.now) c.nth.result ≡ slice_get (fields_of c.args.line.now) c.args.k =
    taken_at c.nth.result c.args.line.now _ c.args.k
    (nth_from_yields_List c.nth.result c.nth.new.self _ c.nth.ensures.ran
    (YieldsList-from_slice_split _ _ c.args.line.now c.split.ensures.rest c.split.ensures.done c.split.ensures.closure (λ x r q k. search (rules, tests))))
    (omega arith) in
    search rules
