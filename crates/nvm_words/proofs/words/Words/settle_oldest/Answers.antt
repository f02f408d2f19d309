use Rattle.std.proofs.Common.{rules, ◌≡◌, ℕ, ◌+◌, ◌*◌, ◌<◌, List, length, get_or, refl, ap, ◌∙◌, subst, arith}
use Rattle.device.specs.Pieces.{settled, present_value}
use Rattle.simulated.specs.Lists.{member}
use Rattle.nvm_words.specs.Cells.{Within}
use Rattle.nvm_words.proofs.Lines.{lent_line, within_line}
use Rattle.nvm_words.proofs.Listed.{settled_lines}
use Rattle.nvm_words.proofs.Owned.{listed_words}
use Rattle.nvm_words.proofs.words.Words.settle_oldest.Goals as goal

pub change_line-requires-clause-within : goal.change_line-requires-clause-within
change_line-requires-clause-within c =
    let n = c.args.self.now in
    let some : 0 < length c.as_slice-lines.result.now = omega (arith, c.requires, ap length c.as_slice-lines.ensures) in
    listed_words n c.as_slice-lines.result.now c.as_slice-lines.ensures (length c.as_mut_slice.result.now) (omega (arith, c.as_mut_slice.ensures.len, n.cells_long)) 0 some

pub invariant_of-self : goal.invariant_of-self
invariant_of-self c =
    let n = c.args.self.now in
    let line = get_or n.pending.queue.items 0 0 in
    let at : get_or c.as_slice-lines.result.now 0 0 ≡ line = ap (λ (xs : List ℕ). get_or xs 0 0) c.as_slice-lines.ensures in
    let changed = subst (λ b. Within (8 * b) (8 * b + 8) (λ _ d. settled (present_value d)) c.as_mut_slice.result.now c.change_line.new.cells) at (c.change_line.ensures (λ _ d. settled (present_value d)) (λ w d r p. search rules)) in
    let lent = lent_line n.cells c.as_mut_slice.result.now c.change_line.new.cells c.as_mut_slice.ensures.value c.change_line.auto.cells (λ _ d. settled (present_value d)) line changed in
    let exact = λ (l : ℕ). ap (member l) c.remove_first.ensures.lines ∙ settled_lines n.cells.items _ n.pending.queue.items n.exact n.pending.once c.requires lent l in
    record { cells_long = n.cells_long; holds_long = n.holds_long; covers = c.remove_first.ensures.size ∙ n.covers; exact = exact }

pub returns : goal.returns
returns c =
    let n = c.args.self.now in
    let line = get_or n.pending.queue.items 0 0 in
    let at : get_or c.as_slice-lines.result.now 0 0 ≡ line = ap (λ (xs : List ℕ). get_or xs 0 0) c.as_slice-lines.ensures in
    let changed = subst (λ b. Within (8 * b) (8 * b + 8) (λ _ d. settled (present_value d)) c.as_mut_slice.result.now c.change_line.new.cells) at (c.change_line.ensures (λ _ d. settled (present_value d)) (λ w d r p. search rules)) in
    let lent = lent_line n.cells c.as_mut_slice.result.now c.change_line.new.cells c.as_mut_slice.ensures.value c.change_line.auto.cells (λ _ d. settled (present_value d)) line changed in
    record { size = refl; power = refl; words = within_line (λ _ d. settled (present_value d)) n.cells.items _ line lent; lines = c.remove_first.ensures.lines }
