use Rattle.std.proofs.Common.{sym, ◌∙◌}
use Rattle.std.proofs.lemmas.Bool.{cond-true, cond-false}
use Rattle.lines.specs.Pieces.{fields_of}
use Rattle.workbench.specs.Orders.{asked_by}
use Rattle.workbench.proofs.Turned.{tile_same, mast_same}
use Rattle.workbench.proofs.read.order_in.Goals as goal

pub returns-then-is_form : goal.returns-then-is_form
unfolding asked_by
returns-then-is_form c = tile_same (fields_of c.args.line.now) c.tile_in.result c.tile_in.ensures ∙ sym (cond-true _ _ _ (sym c.if-is_form.ensures))

pub returns-then-is_form-2 : goal.returns-then-is_form-2
unfolding asked_by
returns-then-is_form-2 c =
    mast_same (fields_of c.args.line.now) c.mast_in.result c.mast_in.ensures ∙ sym (cond-false _ _ _ (sym c.if-is_form.ensures) ∙ cond-true _ _ _ (sym c.if-is_form-2.ensures))

pub returns : goal.returns
unfolding asked_by
returns c = sym (cond-false _ _ _ (sym c.if-is_form.ensures) ∙ cond-false _ _ _ (sym c.if-is_form-2.ensures))
