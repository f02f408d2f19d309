-- How an act moves present values, and what the rules of both kinds of device have in common. Assumes nothing.
use Rattle.std.specs.Prelude.{◌≡◌, ℕ, ◌/◌, ◌%◌, false, cond, ◌⊎◌, List, [], ◌∷◌, ◌==◌}
use Rattle.device.specs.Pieces.{Piece, settled, settled_value, present_value}
use Rattle.device.specs.Devices.{Rules}
use Rattle.device.specs.Words.{NvmAct, Store, Flush, Fence, nvm_rules}
use Rattle.device.specs.Sectors.{DiskAct, Write, Sync, sector_of, disk_rules}
use Rattle.crash.specs.Runs.{Each}
use Rattle.crash.specs.Acts.{Calmer, Leads, Accepts}

-- the present value of the word w after an act, from what it was: a store of that word moves it, and nothing else does
abbrev pub nvm_keeps : NvmAct → ℕ → ℕ → ℕ
nvm_keeps (Store x v) w p = cond (w == x) v p
nvm_keeps (Flush l) w p = p
nvm_keeps Fence w p = p

-- the present contents of the sector s after an act: a write of its block moves them, and nothing else does
abbrev pub disk_keeps : DiskAct → ℕ → List ℕ → List ℕ
disk_keeps (Write b words) s p = cond (s / 8 == b) (sector_of words (s % 8)) p
disk_keeps Sync s p = p

-- the same after a list of acts
abbrev pub kept : {Act Value : Type 0} → (Act → ℕ → Value → Value) → List Act → ℕ → Value → Value
kept keeps [] i p = p
kept keeps (a ∷ more) i p = kept keeps more i (keeps a i p)

-- the acts bring no new present value to a piece but d's
abbrev pub Brings : {Act Value : Type 0} → (Act → ℕ → Value → Value) → (ℕ → Value) → List Act → Type 0
Brings keeps d = Each (λ a. (i : ℕ) (p : _) → (keeps a i p ≡ p) ⊎ (keeps a i p ≡ d i))

-- the acts move no present value
abbrev pub Quiet : {Act Value : Type 0} → (Act → ℕ → Value → Value) → List Act → Type 0
Quiet keeps = Each (λ a. (i : ℕ) (p : _) → keeps a i p ≡ p)

-- A phase of a device of size u from settled contents c to settled contents d: performed whole it leads from c to d; a device
-- settled at c can refuse none of its acts but for darkness; and on the way it brings no value but d's.
pub record Phase {Act Mark Value : Type 0} (rules : Rules Act Mark Value) (keeps : Act → ℕ → Value → Value) (u : ℕ) (c : ℕ → Value) (acts : List Act) (d : ℕ → Value) : Type 0 where
  pub leads : Leads rules c acts d
  pub accepted : Accepts rules u (λ i. settled (c i)) acts
  pub brings : Brings keeps d acts

-- What every crash law rests on: present values move as `keeps` says; the settled value after an act is the settled or the
-- present one before it; a calmer piece stays calmer; and a device with calmer pieces refuses no further act.
pub record Tame {Act Mark Value : Type 0} (rules : Rules Act Mark Value) (keeps : Act → ℕ → Value → Value) : Type 0 where
  pub present : (a : Act) (i : ℕ) (c : Piece Mark Value) → present_value (rules.makes a i c) ≡ keeps a i (present_value c)
  pub old : (a : Act) (i : ℕ) (c : Piece Mark Value)
      → (settled_value (rules.makes a i c) ≡ settled_value c) ⊎ (settled_value (rules.makes a i c) ≡ present_value c)
  pub calmer : (a : Act) (i : ℕ) (c d : Piece Mark Value) → Calmer c d → Calmer (rules.makes a i c) (rules.makes a i d)
  pub opens : (a : Act) (c d : ℕ → Piece Mark Value) → ((i : ℕ) → Calmer (c i) (d i)) → rules.blocked c a ≡ false → rules.blocked d a ≡ false

-- both kinds of device are so
abbrev pub NvmIsTame : Type 0
NvmIsTame = Tame nvm_rules nvm_keeps

abbrev pub DiskIsTame : Type 0
DiskIsTame = Tame disk_rules disk_keeps
