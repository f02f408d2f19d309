use Rattle.std.proofs.Common.{◌+◌, ◌*◌, [], get_or}
use Rattle.device.specs.Words.{nvm_rules}
use Rattle.crash.specs.Runs.{each_of}
use Rattle.crash.specs.Acts.{PerformedOn}
use Rattle.crash.specs.Rows.{storing}
use Rattle.ringlaws.specs.Layout.{after}
use Rattle.ringlaws.specs.Spells.{units_of}
use Rattle.acting.proofs.commit.Stretch.store.Given as goal

abbrev pub invariant-loop-k : goal.invariant-loop-k
invariant-loop-k g l =
    let m = g.N.Nvm.meaning in
    PerformedOn nvm_rules (m l.initial.nvm) (each_of (λ k. storing (32 * (after l.self.places l.self.tail k + 1)) (get_or (units_of l.self.settings.now) k [])) l.k) (m l.nvm)
