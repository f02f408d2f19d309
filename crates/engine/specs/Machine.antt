-- The machine that an engine is. Assumes nothing.
use Rattle.device.specs.Words.{NvmMeaning}
use Rattle.device.specs.Sectors.{DiskMeaning}
use Rattle.calls.specs.Plans.{Machine}
use Rattle.settings.specs.Puts.{list_of}
use Rattle.calling.specs.Seen.{seen}
use Rattle.engine.specs.declared.engine.Engine.{Engine}

-- an engine by what its devices mean, its state and the settings of its open transaction
abbrev pub machine : {N D K R : Type 0} → (N → NvmMeaning) → (D → DiskMeaning) → Engine N D K R → Machine
machine nvm disk e = seen (nvm e.nvm) (disk e.disk) e.state (list_of e.settings)
