use Rattle.std.proofs.Common.{◌+◌, [], ◌∷◌, get_or}
use Rattle.device.specs.Words.{Store, nvm_rules}
use Rattle.crash.specs.Runs.{each_of}
use Rattle.crash.specs.Acts.{PerformedOn}
use Rattle.acting.proofs.memory.store_words.Given as goal

abbrev pub invariant-loop-i : goal.invariant-loop-i
invariant-loop-i g l =
    let m = g.N.Nvm.meaning in
    PerformedOn nvm_rules (m l.initial.nvm) (each_of (λ i. Store (l.first + i) (get_or l.words i 0) ∷ []) l.i) (m l.nvm)
