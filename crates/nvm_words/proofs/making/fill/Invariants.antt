use Rattle.std.proofs.Common.{◌≡◌, ℕ, ◌<◌}
use Rattle.nvm_words.specs.Marks.{words_in}
use Rattle.nvm_words.specs.Cells.{cells_word}
use Rattle.nvm_words.proofs.making.fill.Given as goal

abbrev pub invariant-loop-word : goal.invariant-loop-word
invariant-loop-word l = (w : ℕ) → w < l.word → cells_word l.cells w ≡ words_in l.settled l.present l.marks w
