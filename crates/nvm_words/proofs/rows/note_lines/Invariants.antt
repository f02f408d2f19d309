use Rattle.std.proofs.Common.{◌≡◌, ℕ, true, false, get_or, take}
use Rattle.simulated.specs.Lists.{member}
use Rattle.nvm_words.specs.Cells.{cells_word, is_unsettled_line}
use Rattle.nvm_words.proofs.rows.note_lines.Given as goal

abbrev pub invariant-loop-line : goal.invariant-loop-line
invariant-loop-line l = (b : ℕ) → member b (take l.line-index l.lines) ≡ true → get_or l.holds b false ≡ is_unsettled_line (cells_word l.cells) b
