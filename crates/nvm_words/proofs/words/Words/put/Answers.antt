use Rattle.std.proofs.Common.{ℕ, ◌/◌, ◌<◌, ◌||◌, eqb, length, sym, ap, ◌∙◌, arith}
use Rattle.std.proofs.lemmas.List.{get_or_read}
use Rattle.device.specs.Pieces.{settled_value}
use Rattle.nvm_words.specs.declared.cell.Cell.TheVariants.{Settled}
use Rattle.nvm_words.specs.Cells.{cell_word}
use Rattle.simulated.specs.Lists.{member}
use Rattle.nvm_words.proofs.Contents.{stored_lines}
use Rattle.nvm_words.proofs.Listed.{member_with}
use Rattle.nvm_words.proofs.words.Words.put.Goals as goal

pub invariant_of-self : goal.invariant_of-self
invariant_of-self c =
    let n = c.args.self.now in
    let within : c.args.word < length n.cells.items = omega (arith, n.cells.ok.0, n.cells_long, c.requires.0) in
    let is = c.settled-old.ensures ∙ ap (λ d. settled_value (cell_word d)) (get_or_read n.cells.items c.args.word c.index.result.now within c.index.ensures (Settled 0)) in
    let exact = λ (l : ℕ). ap (member l) c.add.ensures.lines ∙ member_with l (c.args.word / 8) n.pending.queue.items ∙ ap (λ t. eqb l (c.args.word / 8) || t) (n.exact l)
    ∙ sym (stored_lines n.cells.items c.args.word c.settled-old.result c.args.value is within l) in
    record { cells_long = n.cells_long; holds_long = n.holds_long; covers = c.add.ensures.size ∙ n.covers; exact = exact }
