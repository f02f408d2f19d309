use Rattle.std.proofs.Common.{true, false, codes, sym, ◌∙◌}
use Rattle.std.proofs.lemmas.Bool.{cond-true, cond-false}
use Rattle.commands.specs.Commands.{contents_of}
use Rattle.commands.proofs.Spelled.{told}
use Rattle.commands.proofs.command.ContentsTryFromRefSliceU8.try_from.Goals as goal

pub returns-then-eq : goal.returns-then-eq
unfolding contents_of
returns-then-eq c = sym (cond-true _ _ _ (told c.args.field.now (codes "old") c.as_slice.result.now true c.as_slice.ensures c.if-eq.ensures))

pub returns-then-eq-2 : goal.returns-then-eq-2
unfolding contents_of
returns-then-eq-2 c =
    let not_old = told c.args.field.now (codes "old") c.as_slice.result.now false c.as_slice.ensures c.if-eq.ensures in
    sym (cond-false _ _ _ not_old ∙ cond-true _ _ _ (told c.args.field.now (codes "new") c.as_slice-else-eq.result.now true c.as_slice-else-eq.ensures c.if-eq-2.ensures))

pub returns-else-eq-2 : goal.returns-else-eq-2
unfolding contents_of
returns-else-eq-2 c =
    let not_old = told c.args.field.now (codes "old") c.as_slice.result.now false c.as_slice.ensures c.if-eq.ensures in
    sym (cond-false _ _ _ not_old ∙ cond-false _ _ _ (told c.args.field.now (codes "new") c.as_slice-else-eq.result.now false c.as_slice-else-eq.ensures c.if-eq-2.ensures))
