-- The machine that a session's store is. Assumes nothing.
use Rattle.device.specs.Words.{NvmMeaning}
use Rattle.device.specs.Sectors.{DiskMeaning}
use Rattle.calls.specs.Plans.{Machine}
use Rattle.store.specs.Machine.{machine}
use Rattle.session.specs.declared.session.Session.{Session}

-- a session as the machine that its store is
abbrev pub machine_of : {N D : Type 0} → (N → NvmMeaning) → (D → DiskMeaning) → Session N D → Machine
machine_of nvm disk s = machine nvm disk s.store
