-- What performed acts leave as it was: power; and everything, if there are none. Assumes nothing.
use Rattle.std.proofs.Common.{◌≡◌, Bool, false, ◌||◌, List, [], refl, ap, ◌∙◌}
use Rattle.device.specs.Words.{nvm_rules}
use Rattle.device.specs.Sectors.{disk_rules}
use Rattle.crash.specs.Runs.{done}
use Rattle.crash.specs.Pair.{Pair, Act, is_dark, PerformedPair}
use Rattle.crash.proofs.Follow.{run_power}
use Rattle.crash.proofs.Pairs.{runs_part}

pub performed_none : {m n : Pair} → PerformedPair m [] n → n ≡ m
performed_none done = refl

pub stays_lit : (acts : List Act) (m n : Pair) → is_dark m ≡ false → PerformedPair m acts n → is_dark n ≡ false
stays_lit acts m n lit p =
    let (nvm, disk) = runs_part acts m n p in
    ap (λ (x : Bool). x || n.disk.dark) (run_power nvm_rules nvm) ∙ ap (λ (x : Bool). m.nvm.dark || x) (run_power disk_rules disk) ∙ lit
