-- How the devices of a store come back at a restart. Assumes nothing.
use Rattle.std.specs.Prelude.{ℕ}
use Rattle.device.specs.declared.comeback.Comeback.{Comeback}
use Rattle.promise.specs.declared.request.Request.{Request}
use Rattle.promise.specs.declared.request.Request.TheVariants.{Call as aCall, Restart}

-- A restart asks each device for its own contents and for its own acts: what a device promises of that is its `comes`. A call asks
-- nothing of the kind.
abbrev pub AsAsked : {N D R : Type 0} → (N → Comeback → ℕ → N → Type 0) → (D → Comeback → ℕ → D → Type 0) → N → D → Request R → N → D → Type 0
AsAsked nvmComes diskComes nvm disk (aCall c) nvm' disk' = Unit {0}
AsAsked nvmComes diskComes nvm disk (Restart back) nvm' disk' = nvmComes nvm back.nvm back.nvm_acts nvm' × diskComes disk back.disk back.disk_acts disk'
