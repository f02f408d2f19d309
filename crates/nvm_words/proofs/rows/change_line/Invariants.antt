use Rattle.std.proofs.Common.{ℕ, ◌+◌, ◌*◌}
use Rattle.device.specs.Words.{Word}
use Rattle.nvm_words.specs.Cells.{Makes, Within}
use Rattle.nvm_words.proofs.rows.change_line.Given as goal

abbrev pub invariant-loop-place : goal.invariant-loop-place
invariant-loop-place g l = (makes : ℕ → Word → Word) → Makes (goal.F-post g l.change) makes → Within 0 l.place (λ k. makes (8 * l.line + k)) l.initial.cell-items l.cell-items
