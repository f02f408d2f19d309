use Rattle.device.specs.Words.{nvm_rules}
use Rattle.crash.specs.Acts.{PerformedOn}
use Rattle.calls.specs.Acts.{flushing_places}
use Rattle.acting.proofs.commit.Stretch.flush.Given as goal

abbrev pub invariant-loop-k : goal.invariant-loop-k
invariant-loop-k g l =
    let m = g.N.Nvm.meaning in PerformedOn nvm_rules (m l.initial.nvm) (flushing_places l.self.places l.self.tail l.k) (m l.nvm)
