use Rattle.std.proofs.Common.{rules, sym, refl, ◌∙◌}
use Rattle.device.specs.Words.{flushed_word}
use Rattle.nvm_words.proofs.Lines.{lent_line, within_line}
use Rattle.nvm_words.proofs.Contents.{flush_lines, flush_rests}
use Rattle.nvm_words.proofs.words.Words.flush_line.Goals as goal

pub invariant_of-self : goal.invariant_of-self
invariant_of-self c =
    let n = c.args.self.now in
    let changed = lent_line n.cells c.as_mut_slice.result.now c.change_line.new.cells c.as_mut_slice.ensures.value c.change_line.auto.cells (λ _. flushed_word) c.args.line (c.change_line.ensures (λ _. flushed_word) (λ w d r p. search rules)) in
    record { cells_long = n.cells_long; holds_long = n.holds_long; covers = n.covers; exact = λ l. n.exact l ∙ sym (flush_lines n.cells.items _ c.args.line changed l) }

pub returns-then-holds_unsettled : goal.returns-then-holds_unsettled
returns-then-holds_unsettled c =
    let n = c.args.self.now in
    let changed = lent_line n.cells c.as_mut_slice.result.now c.change_line.new.cells c.as_mut_slice.ensures.value c.change_line.auto.cells (λ _. flushed_word) c.args.line (c.change_line.ensures (λ _. flushed_word) (λ w d r p. search rules)) in
    record { size = refl; power = refl; words = within_line (λ _. flushed_word) n.cells.items _ c.args.line changed; lines = refl }

pub returns-else-holds_unsettled : goal.returns-else-holds_unsettled
returns-else-holds_unsettled c =
    let n = c.args.self.now in
    record { size = refl; power = refl; words = flush_rests n.cells.items c.args.line (sym (n.exact c.args.line) ∙ sym c.holds_unsettled.ensures ∙ c.if-holds_unsettled.false); lines = refl }
