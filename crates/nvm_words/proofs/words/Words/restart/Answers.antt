use Rattle.std.proofs.Common.{rules, ℕ, cond, length, refl, ap, ◌∙◌, arith}
use Rattle.device.specs.Pieces.{settled, present_value, settled_value, is_unsettled}
use Rattle.device.specs.Words.{Word}
use Rattle.simulated.specs.Lists.{member}
use Rattle.simulated.specs.Natures.{takes_new}
use Rattle.simulated.specs.declared.supply.Supply.{Supply}
use Rattle.simulated.proofs.Laws.{same_state}
use Rattle.nvm_words.proofs.Lines.{lent_lines}
use Rattle.nvm_words.proofs.Contents.{back_steady, back_rests}
use Rattle.nvm_words.proofs.Listed.{all_changed, none_listed}
use Rattle.nvm_words.proofs.Owned.{listed_words}
use Rattle.nvm_words.proofs.words.Words.restart.Goals as goal

pub change_lines-requires-clause-within : goal.change_lines-requires-clause-within
change_lines-requires-clause-within c =
    let n = c.args.self.now in
    listed_words n c.as_slice.result.now c.as_slice.ensures (length c.as_mut_slice.result.now) (omega (arith, c.as_mut_slice.ensures.len, n.cells_long))

pub invariant_of-self : goal.invariant_of-self
invariant_of-self c =
    let n = c.args.self.now in
    let ls = n.pending.queue.items in
    let back = λ (w : ℕ) (d : Word). settled (cond (takes_new c.args.how.now w) (present_value d) (settled_value d)) in
    let changed = lent_lines n.cells c.as_mut_slice.result.now c.change_lines.new.cells c.as_mut_slice.ensures.value c.change_lines.auto.cells back c.as_slice.result.now ls c.as_slice.ensures (c.change_lines.ensures back (λ w d r p. search rules) (back_steady (takes_new c.args.how.now))) in
    let words = all_changed n.cells.items ls n.exact back _ changed (back_rests (takes_new c.args.how.now)) in
    record { cells_long = n.cells_long; holds_long = n.holds_long; covers = c.clear.ensures.size ∙ n.covers; exact = λ l. ap (member l) c.clear.ensures.lines ∙ none_listed _ (λ w. ap is_unsettled (words w)) l }

pub returns-clause-state : goal.returns-clause-state
returns-clause-state c =
    let n = c.args.self.now in
    let ls = n.pending.queue.items in
    let back = λ (w : ℕ) (d : Word). settled (cond (takes_new c.args.how.now w) (present_value d) (settled_value d)) in
    let changed = lent_lines n.cells c.as_mut_slice.result.now c.change_lines.new.cells c.as_mut_slice.ensures.value c.change_lines.auto.cells back c.as_slice.result.now ls c.as_slice.ensures (c.change_lines.ensures back (λ w d r p. search rules) (back_steady (takes_new c.args.how.now))) in
    same_state _ _ refl (ap (λ (p : Supply). p.dark) c.restore.ensures) (all_changed n.cells.items ls n.exact back _ changed (back_rests (takes_new c.args.how.now))) (ap (λ (p : Supply). p.left) c.restore.ensures)
