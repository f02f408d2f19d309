-- What runs, cuts and restarts leave of both devices at once, where a phase touches one device. Assumes nothing.
use Rattle.std.specs.Prelude.{◌≡◌, ℕ, ◌*◌, ◌≤◌, Bool, true, false, ◌⊎◌, List, ◌++◌, map}
use Rattle.refusal.specs.declared.reason.Refusal.{Refusal}
use Rattle.refusal.specs.declared.reason.Refusal.TheVariants.{Dark}
use Rattle.device.specs.Pieces.{settled, is_unsettled, ComesBack}
use Rattle.device.specs.Words.{NvmAct, words_of, nvm_rules}
use Rattle.device.specs.Sectors.{DiskAct, sectors_of, disk_rules}
use Rattle.crash.specs.Acts.{PerformedOn, Begun, Rests, Blend, Leads, Spares}
use Rattle.crash.specs.Keeping.{kept, nvm_keeps, disk_keeps, Brings}
use Rattle.crash.specs.Rows.{sealing}
use Rattle.crash.specs.Pair.{Pair, Act, on_nvm, on_disk, is_dark, PerformedPair, HaltedPair, CutPair, PairRestarted, PairRests, PairAccepts, nvm_part, disk_part, settling_both}

-- a run of both devices is a run of each
abbrev pub RunsPart : Type 0
RunsPart = (acts : List Act) (m n : Pair) → PerformedPair m acts n
    → PerformedOn nvm_rules m.nvm (nvm_part acts) n.nvm × PerformedOn disk_rules m.disk (disk_part acts) n.disk

-- after a cut of both devices the pair is dark, and each device has begun its acts
abbrev pub CutsPart : Type 0
CutsPart = (acts : List Act) (m n : Pair) → CutPair m acts n
    → (is_dark n ≡ true) × Begun nvm_rules m.nvm (nvm_part acts) n.nvm × Begun disk_rules m.disk (disk_part acts) n.disk

-- where both devices accept their acts, only darkness stops a run
abbrev pub OnlyDarknessStopsBoth : Type 0
OnlyDarknessStopsBoth = (acts : List Act) (m n : Pair) (e : Refusal) → PairAccepts m acts → HaltedPair m acts e n → (e ≡ Dark) × CutPair m acts n

-- What was settled on either device and no act touches outlasts a cut of both and a restart.
abbrev pub UntouchedOutlastsBoth : Type 0
UntouchedOutlastsBoth =
    (S T : ℕ → Bool) (acts : List Act) (m n p : Pair)
    → ((w : ℕ) → S w ≡ true → is_unsettled (m.nvm.piece w) ≡ false)
    → ((s : ℕ) → T s ≡ true → is_unsettled (m.disk.piece s) ≡ false)
    → Spares nvm_rules S (nvm_part acts)
    → Spares disk_rules T (disk_part acts)
    → CutPair m acts n
    → PairRestarted n p
    → ((w : ℕ) → S w ≡ true → p.nvm.piece w ≡ m.nvm.piece w) × ((s : ℕ) → T s ≡ true → p.disk.piece s ≡ m.disk.piece s)

-- what a restart of both devices may bring back
pub record Returns (c d : ℕ → ℕ) (e f : ℕ → List ℕ) (p : Pair) : Type 0 where
  pub rests : PairRests (words_of p.nvm) (sectors_of p.disk) p
  pub words : Blend c d (words_of p.nvm)
  pub sectors : Blend e f (sectors_of p.disk)

-- A phase of the memory, from contents c to d, while the disk is settled at e: performed whole, and cut at any act.
abbrev pub NvmPhaseSettles : Type 0
NvmPhaseSettles = (c d : ℕ → ℕ) (e : ℕ → List ℕ) (acts : List NvmAct) (m n : Pair)
    → PairRests c e m → Leads nvm_rules c acts d → PerformedPair m (map on_nvm acts) n → PairRests d e n

abbrev pub NvmPhaseBlends : Type 0
NvmPhaseBlends = (c d : ℕ → ℕ) (e : ℕ → List ℕ) (acts : List NvmAct) (m n p : Pair)
    → PairRests c e m → Brings nvm_keeps d acts → CutPair m (map on_nvm acts) n → PairRestarted n p → Returns c d e e p

-- A phase of the disk, from contents e to f, while the memory is settled at c: performed whole, and cut at any act.
abbrev pub DiskPhaseSettles : Type 0
DiskPhaseSettles = (c : ℕ → ℕ) (e f : ℕ → List ℕ) (acts : List DiskAct) (m n : Pair)
    → PairRests c e m → Leads disk_rules e acts f → PerformedPair m (map on_disk acts) n → PairRests c f n

abbrev pub DiskPhaseBlends : Type 0
DiskPhaseBlends = (c : ℕ → ℕ) (e f : ℕ → List ℕ) (acts : List DiskAct) (m n p : Pair)
    → PairRests c e m → Brings disk_keeps f acts → CutPair m (map on_disk acts) n → PairRestarted n p → Returns c c e f p

-- Acts on the memory that one last word puts in force, while the disk is settled at e: after a cut and a restart the disk is as
-- it was, and all of S is as it was or every word is as the whole run leaves it.
abbrev pub SealingBothIsAtomic : Type 0
SealingBothIsAtomic =
    (c d : ℕ → ℕ) (e : ℕ → List ℕ) (acts : List NvmAct) (t v : ℕ) (S : ℕ → Bool) (m n p : Pair)
    → PairRests c e m
    → Leads nvm_rules c acts d
    → Spares nvm_rules S acts
    → S t ≡ true
    → CutPair m (map on_nvm (acts ++ sealing t v)) n
    → PairRestarted n p
    → Rests e p.disk
    × (((w : ℕ) → S w ≡ true → p.nvm.piece w ≡ settled (c w)) ⊎ ((w : ℕ) → p.nvm.piece w ≡ settled (kept nvm_keeps (acts ++ sealing t v) w (c w))))

-- what flushes of all lines, a fence and a sync do to any devices of which the memory has nothing to settle beyond its size
pub record SettlesBoth (m : Pair) : Type 0 where
  -- none of the acts is refused but for darkness
  pub accepted : PairAccepts m (settling_both m.nvm.size)
  -- performed whole, they settle everything at the present contents
  pub performed : (n : Pair) → PerformedPair m (settling_both m.nvm.size) n → PairRests (words_of m.nvm) (sectors_of m.disk) n
  -- cut anywhere, they leave the present contents of both devices
  pub words : (n : Pair) → CutPair m (settling_both m.nvm.size) n → (w : ℕ) → words_of n.nvm w ≡ words_of m.nvm w
  pub sectors : (n : Pair) → CutPair m (settling_both m.nvm.size) n → (s : ℕ) → sectors_of n.disk s ≡ sectors_of m.disk s
  -- and a restart then brings back what it might have brought back before
  pub words_back : (n p : Pair) → CutPair m (settling_both m.nvm.size) n → PairRestarted n p → (w : ℕ) → ComesBack (m.nvm.piece w) (p.nvm.piece w)
  pub sectors_back : (n p : Pair) → CutPair m (settling_both m.nvm.size) n → PairRestarted n p → (s : ℕ) → ComesBack (m.disk.piece s) (p.disk.piece s)

abbrev pub AnyDevicesSettle : Type 0
AnyDevicesSettle = (m : Pair) → ((w : ℕ) → 32 * m.nvm.size ≤ w → is_unsettled (m.nvm.piece w) ≡ false) → SettlesBoth m
