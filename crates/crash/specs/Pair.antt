-- Both devices at once: a non-volatile memory and a disk. Assumes nothing.
use Rattle.std.specs.Prelude.{◌≡◌, ℕ, Bool, ◌||◌, List, [], ◌∷◌, ◌++◌, map, Ok, Err, Result}
use Rattle.refusal.specs.declared.reason.Refusal.{Refusal}
use Rattle.refusal.specs.declared.reason.Refusal.TheVariants.{Dark}
use Rattle.device.specs.Devices.{darkened, Performs, Refuses, Restarted}
use Rattle.device.specs.Words.{NvmMeaning, NvmAct, nvm_rules}
use Rattle.device.specs.Sectors.{DiskMeaning, DiskAct, Sync, disk_rules}
use Rattle.crash.specs.Runs.{Performed, Stopped, Halted, Ran}
use Rattle.crash.specs.Acts.{Rests, Accepts}
use Rattle.crash.specs.Rows.{settling}

pub record Pair : Type 0 where
  pub nvm : NvmMeaning
  pub disk : DiskMeaning

abbrev pub both : NvmMeaning → DiskMeaning → Pair
both n d = record { nvm = n; disk = d }

-- an act on either device
pub data Act : Type 0 where
  on_nvm : NvmAct → Act
  on_disk : DiskAct → Act

-- a pair is dark if one of its devices is
abbrev pub is_dark : Pair → Bool
is_dark m = m.nvm.dark || m.disk.dark

-- the act was performed by its device, and the other device is as it was
abbrev pub PairPerforms : Pair → Act → Pair → Type 0
PairPerforms m (on_nvm a) n = Performs nvm_rules m.nvm a n.nvm × (n.disk ≡ m.disk)
PairPerforms m (on_disk a) n = Performs disk_rules m.disk a n.disk × (n.nvm ≡ m.nvm)

-- the act was refused with e by its device, and the other device is as it was
abbrev pub PairRefuses : Pair → Act → Refusal → Pair → Type 0
PairRefuses m (on_nvm a) e n = Refuses nvm_rules m.nvm a e n.nvm × (n.disk ≡ m.disk)
PairRefuses m (on_disk a) e n = Refuses disk_rules m.disk a e n.disk × (n.nvm ≡ m.nvm)

-- in place of the act its device is dark, and nothing else changes
abbrev pub PairDarkens : Pair → Act → Pair → Type 0
PairDarkens m (on_nvm a) n = (n.nvm ≡ darkened m.nvm) × (n.disk ≡ m.disk)
PairDarkens m (on_disk a) n = (n.disk ≡ darkened m.disk) × (n.nvm ≡ m.nvm)

-- the runs of a pair: performed whole; stopped by a refusal; either of them; stopped by darkness
abbrev pub PerformedPair : Pair → List Act → Pair → Type 0
PerformedPair = Performed PairPerforms

abbrev pub HaltedPair : Pair → List Act → Refusal → Pair → Type 0
HaltedPair = Halted PairPerforms PairRefuses

abbrev pub RanPair : {V : Type 0} → Pair → List Act → Result V Refusal → Pair → Type 0
RanPair = Ran PairPerforms PairRefuses

abbrev pub CutPair : Pair → List Act → Pair → Type 0
CutPair = Stopped PairPerforms PairDarkens

-- what a call promises of acts that only darkness stops
abbrev pub PairRanOrDark : {V : Type 0} → Pair → List Act → Result V Refusal → Pair → Type 0
PairRanOrDark m acts (Ok v) n = PerformedPair m acts n
PairRanOrDark m acts (Err e) n = (e ≡ Dark) × CutPair m acts n

-- power returns to both devices
pub record PairRestarted (m n : Pair) : Type 0 where
  pub nvm : Restarted m.nvm n.nvm
  pub disk : Restarted m.disk n.disk

-- the acts of a list that are on one of the devices
abbrev pub nvm_part : List Act → List NvmAct
nvm_part [] = []
nvm_part (on_nvm a ∷ more) = a ∷ nvm_part more
nvm_part (on_disk a ∷ more) = nvm_part more

abbrev pub disk_part : List Act → List DiskAct
disk_part [] = []
disk_part (on_nvm a ∷ more) = disk_part more
disk_part (on_disk a ∷ more) = a ∷ disk_part more

-- both devices are settled, at the contents c and e
pub record PairRests (c : ℕ → ℕ) (e : ℕ → List ℕ) (m : Pair) : Type 0 where
  pub nvm : Rests c m.nvm
  pub disk : Rests e m.disk

-- neither device can refuse an act of the list but for darkness
pub record PairAccepts (m : Pair) (acts : List Act) : Type 0 where
  pub nvm : Accepts nvm_rules m.nvm.size m.nvm.piece (nvm_part acts)
  pub disk : Accepts disk_rules m.disk.size m.disk.piece (disk_part acts)

-- the flushes of all lines of a memory of u units, a fence, and a sync of the disk
abbrev pub settling_both : ℕ → List Act
settling_both u = map on_nvm (settling u) ++ on_disk Sync ∷ []
