use Rattle.std.proofs.Common.{◌≡◌, ℕ, ◌+◌}
use Rattle.device.specs.Words.{nvm_rules}
use Rattle.crash.specs.Acts.{PerformedOn}
use Rattle.crash.specs.Rows.{flushing}
use Rattle.acting.proofs.memory.flush_lines.Given as goal

abbrev pub invariant-loop-line : goal.invariant-loop-line
invariant-loop-line g l =
    let m = g.N.Nvm.meaning in (i : ℕ) × (l.line ≡ l.first + i) × PerformedOn nvm_rules (m l.initial.nvm) (flushing l.first i) (m l.nvm)
