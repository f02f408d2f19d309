use Rattle.std.proofs.Common.{eqb, sym, ◌∙◌, rules, tests}
use Rattle.std.specs.Cmp.Lexicographic.{pointwise}
use Rattle.std.proofs.lemmas.Iterator.{YieldsList-from_slice}
use Rattle.std.proofs.lemmas.Iterator.Search.{find_from_yields_List}
use Rattle.commands.specs.Verbs.{spelling, verbs, verb_of}
use Rattle.commands.proofs.Spelled.{first_written}
use Rattle.commands.proofs.verb.VerbTryFromRefSliceU8.try_from.Goals as goal

pub returns : goal.returns
unfolding verb_of
returns c =
    sym c.ok_or.ensures.ok_part
    ∙ (c.copied.ensures
    ∙ (find_from_yields_List (λ v. pointwise eqb c.args.field.now (spelling v)) _ _ c.find.result c.find.ensures.ran (YieldsList-from_slice verbs c.iter.ensures.rest) (λ x b q k. search (rules, tests))
    ∙ first_written c.args.field.now verbs))
