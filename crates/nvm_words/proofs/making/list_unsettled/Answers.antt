use Rattle.std.proofs.Common.{sym, ap, ◌∙◌}
use Rattle.simulated.specs.declared.pending.Pending.{Pending}
use Rattle.simulated.specs.Listing.{lines_of}
use Rattle.nvm_words.specs.Cells.{cells_word, is_unsettled_line}
use Rattle.nvm_words.proofs.Counted.{listed_yes, listed_no}
use Rattle.nvm_words.proofs.making.list_unsettled.Goals as goal
use Rattle.nvm_words.proofs.making.list_unsettled.Goals.{then-any_unsettled, else-any_unsettled}

pub loop-line-preserved : goal.loop-line-preserved
loop-line-preserved c =
    let step = c.loop-line in
    let p = is_unsettled_line (cells_word c.args.cells.now) in
    elim c.if-any_unsettled.branch [
      | then-any_unsettled w ↦ (
        ap (λ (x : Pending). x.size) w.pending-is ∙ w.add.ensures.size ∙ step.invariant.0,
        ap lines_of w.pending-is ∙ w.add.ensures.lines ∙ listed_yes p step.line (lines_of step.pending) step.invariant.1 (sym c.any_unsettled.ensures ∙ w.if-any_unsettled.true),
      )
      | else-any_unsettled w ↦ (
        ap (λ (x : Pending). x.size) w.pending-is ∙ step.invariant.0,
        ap lines_of w.pending-is ∙ listed_no p step.line (lines_of step.pending) step.invariant.1 (sym c.any_unsettled.ensures ∙ w.if-any_unsettled.false),
      )
    ]
