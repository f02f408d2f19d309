-- What a simulated disk is, and what becomes of it. Assumes nothing.
use Rattle.std.specs.Prelude.{◌≡◌, ℕ, ◌*◌, ◌/◌, ◌<◌, min, Bool, false, cond, List, length, take, replicate, Some, None, vec_items, Option, Result, nat_lt}
use Rattle.refusal.specs.declared.reason.Refusal.{Refusal}
use Rattle.device.specs.Pieces.{settled, settled_value, present_value, is_unsettled}
use Rattle.device.specs.Sectors.{SectorMark, Sector, DiskAct, disk_makes, disk_rules, sectors_of, disk_word}
use Rattle.simulated.specs.Natures.{Simulated, answers, becomes}
use Rattle.disks.specs.Rows.{sector_at}
use Rattle.disks.specs.declared.contents.Contents.{Contents}

-- a simulated disk: its meaning, sector by sector, and the acts that it has left
abbrev pub DiskState : Type 0
DiskState = Simulated SectorMark (List ℕ)

-- a disk by its size, its power and its three rows
abbrev pub disk_of : ℕ → Bool → List ℕ → List ℕ → List Bool → ℕ → DiskState
disk_of size dark olds news marks acts = record { meaning = record { size = size; dark = dark; piece = sector_at olds news marks }; left = acts }

-- what the contents of a disk are
abbrev pub disk_state : Contents → DiskState
disk_state d = disk_of d.blocks d.supply.dark (vec_items d.settled) (vec_items d.present) (vec_items d.waiting) d.supply.left

-- the whole blocks in the shortest of three lists
abbrev pub blocks_in : List ℕ → List ℕ → List Bool → ℕ
blocks_in olds news marks = min (min (length olds / 512) (length news / 512)) (length marks / 8)

-- the disk that three lists say, without what is longer than those blocks
abbrev pub made_of : List ℕ → List ℕ → List Bool → ℕ → DiskState
made_of olds news marks acts =
    let size = blocks_in olds news marks in
    disk_of size false (take (512 * size) olds) (take (512 * size) news) (take (8 * size) marks) acts

-- within its size such a disk has the sectors that the lists themselves say
abbrev pub MadeAsListed : Type 0
MadeAsListed = (olds news : List ℕ) (marks : List Bool) (acts s : ℕ) → s < 8 * blocks_in olds news marks → (made_of olds news marks acts).meaning.piece s ≡ sector_at olds news marks s

-- a disk of zeros, all settled
abbrev pub blank : ℕ → ℕ → DiskState
blank size acts = record { meaning = record { size = size; dark = false; piece = λ s. settled (replicate 64 0) }; left = acts }

-- A disk answers an act and becomes what every simulated one does, if it makes `makes` of each sector.
abbrev pub ActsBy : (ℕ → Sector → Sector) → DiskState → DiskAct → Result (Unit {0}) Refusal → DiskState → Type 0
ActsBy makes s a r t = (r ≡ answers disk_rules s a) × (t ≡ becomes disk_rules makes s a)

-- the patient disk settles at syncs only: it makes of a sector what the act makes of it, and nothing else
abbrev pub patient : DiskAct → ℕ → Sector → Sector
patient a s c = disk_makes a s c

-- the prompt disk settles every sector at every performed act, the sectors just written included
abbrev pub prompt : DiskAct → ℕ → Sector → Sector
prompt a s c = settled (present_value (disk_makes a s c))

-- every sector settled at its present words, without an act
abbrev pub all_settled : DiskState → DiskState
all_settled t = record { meaning = record { size = t.meaning.size; dark = t.meaning.dark; piece = λ s. settled (present_value (t.meaning.piece s)) }; left = t.left }

-- what a look at a word or at a sector shows
abbrev pub present_at : DiskState → ℕ → Option ℕ
present_at t w = cond (nat_lt w (512 * t.meaning.size)) (Some (disk_word (sectors_of t.meaning) w)) None

abbrev pub settled_at : DiskState → ℕ → Option ℕ
settled_at t w = cond (nat_lt w (512 * t.meaning.size)) (Some (disk_word (λ s. settled_value (t.meaning.piece s)) w)) None

abbrev pub waits_at : DiskState → ℕ → Option Bool
waits_at t s = cond (nat_lt s (8 * t.meaning.size)) (Some (is_unsettled (t.meaning.piece s))) None
