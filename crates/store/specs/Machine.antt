-- What a store is to its callers, and the machine that it is. Assumes nothing.
use Rattle.device.specs.Words.{NvmMeaning}
use Rattle.device.specs.Sectors.{DiskMeaning}
use Rattle.calls.specs.Plans.{Machine}
use Rattle.engine.specs.declared.engine.Engine.{Engine}
use Rattle.engine.specs.Machine.{machine as machine_of}

-- a store is the engine that it holds
pub record Held (N D K R : Type 0) : Type 0 where
  pub engine : Engine N D K R

-- a store as the machine that its engine is
abbrev pub machine : {N D K R : Type 0} → (N → NvmMeaning) → (D → DiskMeaning) → Held N D K R → Machine
machine nvm disk s = machine_of nvm disk s.engine
