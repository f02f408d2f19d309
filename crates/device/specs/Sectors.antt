-- A disk: sectors of 64 words, blocks of eight sectors (512 words); its size counts blocks. Assumes nothing.
use Rattle.std.specs.Prelude.{◌≡◌, ℕ, zero, suc, ◌+◌, ◌*◌, ◌/◌, ◌%◌, Bool, false, cond, ◌||◌, List, map, Some, None, Ok, Err, Option, Result, ◌==◌, nat_le, slice_index}
use Rattle.std.specs.List.{range_with_len}
use Rattle.refusal.specs.declared.reason.Refusal.{Refusal}
use Rattle.refusal.specs.declared.reason.Refusal.TheVariants.{Beyond, Dark}
use Rattle.device.specs.Pieces.{Piece, settled, unsettled, settled_value, present_value, is_unsettled}
use Rattle.device.specs.Devices.{Meaning, Rules}

-- an unsettled sector waits for a sync
pub data SectorMark : Type 0 where
  waits : SectorMark

-- a sector holds its 64 words
abbrev pub Sector : Type 0
Sector = Piece SectorMark (List ℕ)

abbrev pub DiskMeaning : Type 0
DiskMeaning = Meaning SectorMark (List ℕ)

pub data DiskAct : Type 0 where
  Write : ℕ → List ℕ → DiskAct
  Sync : DiskAct

-- the k-th sector of a block's 512 words
unfoldable pub sector_of : List ℕ → ℕ → List ℕ
sector_of words k = map (λ i. slice_index words (64 * k + i)) (range_with_len 0 64)

-- what an act makes of the sector s: a write of its block gives it new present contents and makes it wait
abbrev pub disk_makes : DiskAct → ℕ → Sector → Sector
disk_makes (Write b words) s c = cond (s / 8 == b) (unsettled waits (settled_value c) (sector_of words (s % 8))) c
disk_makes Sync s c = settled (present_value c)

abbrev pub disk_beyond : ℕ → DiskAct → Bool
disk_beyond blocks (Write b words) = nat_le blocks b
disk_beyond blocks Sync = false

-- one of the first n is true
unfoldable pub any_below : (ℕ → Bool) → ℕ → Bool
any_below f zero = false
any_below f (suc n) = f n || any_below f n

-- a write needs a block without a waiting sector
abbrev pub disk_blocked : (ℕ → Sector) → DiskAct → Bool
disk_blocked sector (Write b words) = any_below (λ k. is_unsettled (sector (8 * b + k))) 8
disk_blocked sector Sync = false

abbrev pub disk_rules : Rules DiskAct SectorMark (List ℕ)
disk_rules = record { beyond = disk_beyond; blocked = disk_blocked; makes = disk_makes }

-- the present contents, sector by sector
abbrev pub sectors_of : DiskMeaning → ℕ → List ℕ
sectors_of m s = present_value (m.piece s)

-- the word w of a disk, by its sectors
abbrev pub disk_word : (ℕ → List ℕ) → ℕ → ℕ
disk_word sectors w = slice_index (sectors (w / 64)) (w % 64)

-- the 512 words of a block
unfoldable pub block_of : (ℕ → List ℕ) → ℕ → List ℕ
block_of sectors b = map (λ i. disk_word sectors (512 * b + i)) (range_with_len 0 512)

abbrev pub read_refusal : DiskMeaning → ℕ → Option Refusal
read_refusal m b = cond m.dark (Some Dark) (cond (nat_le m.size b) (Some Beyond) None)

-- a read fills the buffer with the block's present contents, or is refused and leaves it
abbrev pub Reads : DiskMeaning → ℕ → List ℕ → Result (Unit {0}) Refusal → List ℕ → Type 0
Reads m b old (Ok done) new = (read_refusal m b ≡ None) × (new ≡ block_of (sectors_of m) b)
Reads m b old (Err e) new = (read_refusal m b ≡ Some e) × (new ≡ old)
