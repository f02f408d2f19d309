use Rattle.std.proofs.Common.{ℕ, take}
use Rattle.device.specs.Words.{Word}
use Rattle.nvm_words.specs.Cells.{Makes, Steady, Among}
use Rattle.nvm_words.proofs.rows.change_lines.Given as goal

abbrev pub invariant-loop-line : goal.invariant-loop-line
invariant-loop-line g l = (makes : ℕ → Word → Word) → Makes (goal.F-post g l.change) makes → Steady makes → Among (take l.line-index l.lines) makes l.initial.cells l.cells
