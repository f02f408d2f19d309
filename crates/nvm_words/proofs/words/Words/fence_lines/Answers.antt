use Rattle.std.proofs.Common.{rules, ℕ, ◌+◌, ◌*◌, false, length, get_or, refl, ap, ◌∙◌, arith}
use Rattle.simulated.specs.Lists.{member}
use Rattle.device.specs.Pieces.{is_unsettled}
use Rattle.device.specs.Words.{fenced_word}
use Rattle.nvm_words.proofs.Any.{any_same}
use Rattle.nvm_words.proofs.Lines.{lent_lines}
use Rattle.nvm_words.proofs.Contents.{lent_notes, fenced_steady, fenced_rests}
use Rattle.nvm_words.proofs.Listed.{all_changed, kept_lines, kept_same}
use Rattle.nvm_words.proofs.Owned.{listed_words, listed_below}
use Rattle.nvm_words.proofs.words.Words.fence_lines.Goals as goal

pub change_lines-requires-clause-within : goal.change_lines-requires-clause-within
change_lines-requires-clause-within c =
    let n = c.args.self.now in
    listed_words n c.as_slice.result.now c.as_slice.ensures (length c.as_mut_slice.result.now) (omega (arith, c.as_mut_slice.ensures.len, n.cells_long))

pub note_lines-requires-clause-within : goal.note_lines-requires-clause-within
note_lines-requires-clause-within c =
    let n = c.args.self.now in
    listed_words n c.as_slice-3.result.now c.as_slice-3.ensures (length c.as_slice-2.result.now) (omega (arith, c.as_slice-2.ensures.len, n.cells_long))

pub note_lines-requires-clause-room : goal.note_lines-requires-clause-room
note_lines-requires-clause-room c =
    let n = c.args.self.now in
    λ k lt. omega (arith, listed_below n c.as_slice-3.result.now c.as_slice-3.ensures k lt, c.as_mut_slice-2.ensures.len, n.holds_long)

pub invariant_of-self : goal.invariant_of-self
invariant_of-self c =
    let n = c.args.self.now in
    let ls = n.pending.queue.items in
    let changed = lent_lines n.cells c.as_mut_slice.result.now c.change_lines.new.cells c.as_mut_slice.ensures.value c.change_lines.auto.cells (λ _. fenced_word) c.as_slice.result.now ls c.as_slice.ensures (c.change_lines.ensures (λ _. fenced_word) (λ w d r p. search rules) fenced_steady) in
    let noted = lent_notes n.holds c.as_mut_slice-2.result.now c.note_lines.new.holds c.as_slice-4.result.now c.as_slice-3.result.now ls c.as_slice-2.result.now _
    c.as_mut_slice-2.ensures.value c.note_lines.auto.holds c.as_slice-4.ensures.value c.as_slice-3.ensures c.as_slice-2.ensures.value c.note_lines.ensures in
    let exact = λ (l : ℕ). ap (member l) c.retain.ensures.lines ∙ kept_lines n.cells.items ls n.exact (λ _. fenced_word) _ changed (λ b. get_or c.as_slice-4.result.now b false) noted l in
    record { cells_long = n.cells_long; holds_long = n.holds_long; covers = c.retain.ensures.size ∙ n.covers; exact = exact }

pub returns : goal.returns
returns c =
    let n = c.args.self.now in
    let ls = n.pending.queue.items in
    let changed = lent_lines n.cells c.as_mut_slice.result.now c.change_lines.new.cells c.as_mut_slice.ensures.value c.change_lines.auto.cells (λ _. fenced_word) c.as_slice.result.now ls c.as_slice.ensures (c.change_lines.ensures (λ _. fenced_word) (λ w d r p. search rules) fenced_steady) in
    let noted = lent_notes n.holds c.as_mut_slice-2.result.now c.note_lines.new.holds c.as_slice-4.result.now c.as_slice-3.result.now ls c.as_slice-2.result.now _
    c.as_mut_slice-2.ensures.value c.note_lines.auto.holds c.as_slice-4.ensures.value c.as_slice-3.ensures c.as_slice-2.ensures.value c.note_lines.ensures in
    let words = all_changed n.cells.items ls n.exact (λ _. fenced_word) _ changed fenced_rests in
    record {
      size = refl;
      power = refl;
      words = words;
      lines = c.retain.ensures.lines ∙ kept_same _ _ ls (λ l m. noted l m ∙ any_same _ _ 8 (λ k lt. ap is_unsettled (words (8 * l + k))));
    }
