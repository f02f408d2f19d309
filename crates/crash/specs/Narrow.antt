-- How narrow the freedom of a device is: what an act, a refusal and a restart pin down. The statements are over the rules of a
-- device, and hold of both kinds. Assumes nothing.
use Rattle.std.specs.Prelude.{◌≡◌, ℕ, ◌/◌, ◌%◌, Bool, true, false, List, Err, Result}
use Rattle.refusal.specs.declared.reason.Refusal.{Refusal}
use Rattle.refusal.specs.declared.reason.Refusal.TheVariants.{Dark}
use Rattle.device.specs.Pieces.{settled, unsettled, is_unsettled}
use Rattle.device.specs.Devices.{Meaning, Rules, Performs, Refuses, Acted, Restarted}
use Rattle.device.specs.Words.{NvmMeaning, Store, Fence, flushed, words_of, nvm_rules}
use Rattle.device.specs.Sectors.{DiskMeaning, Write, Sync, sector_of, sectors_of, disk_rules}
use Rattle.crash.specs.Acts.{RanOn, Begun, contents, Rests, Spares}

-- after a performed fence a word that was flushed is settled at its present value
abbrev pub FenceSettles : Type 0
FenceSettles = (m n : NvmMeaning) → Performs nvm_rules m Fence n → (w s p : ℕ) → m.piece w ≡ unsettled flushed s p → n.piece w ≡ settled p

-- after a performed sync every sector is settled at its present contents
abbrev pub SyncSettles : Type 0
SyncSettles = (m n : DiskMeaning) → Performs disk_rules m Sync n → Rests (sectors_of m) n

-- after a performed store the present value of the word is the new one
abbrev pub StoreShows : Type 0
StoreShows = (m n : NvmMeaning) (x v : ℕ) → Performs nvm_rules m (Store x v) n → words_of n x ≡ v

-- after a performed write the present contents of each sector of the block are the new ones
abbrev pub WriteShows : Type 0
WriteShows = (m n : DiskMeaning) (b : ℕ) (words : List ℕ) → Performs disk_rules m (Write b words) n → (s : ℕ) → s / 8 ≡ b → sectors_of n s ≡ sector_of words (s % 8)

module _ {Act Mark Value : Type 0} (rules : Rules Act Mark Value) where
  -- a piece that the act makes settled is settled
  abbrev pub SettlingIsDone : Type 0
  SettlingIsDone = (m n : Meaning Mark Value) (a : Act) → Performs rules m a n → (i : ℕ)
      → is_unsettled (rules.makes a i (m.piece i)) ≡ false → n.piece i ≡ rules.makes a i (m.piece i)

  -- the present contents after an act are a function of the act and of the present contents before
  abbrev pub NothingElseMoves : (Act → ℕ → Value → Value) → Type 0
  NothingElseMoves keeps = (m n : Meaning Mark Value) (a : Act) → Performs rules m a n → (i : ℕ) → contents n i ≡ keeps a i (contents m i)

  -- a refused act leaves every piece as it was
  abbrev pub RefusalsMoveNothing : Type 0
  RefusalsMoveNothing = (m n : Meaning Mark Value) (a : Act) (e : Refusal) → Refuses rules m a e n → (i : ℕ) → n.piece i ≡ m.piece i

  -- no act changes the size
  abbrev pub SizeStays : Type 0
  SizeStays = (m n : Meaning Mark Value) (a : Act) (r : Result (Unit {0}) Refusal) → Acted rules m a r n → n.size ≡ m.size

  -- a dark device refuses every act for darkness, and stays as it is
  abbrev pub DarkStaysDark : Type 0
  DarkStaysDark = (m n : Meaning Mark Value) (a : Act) (r : Result (Unit {0}) Refusal) → m.dark ≡ true → Acted rules m a r n → (r ≡ Err Dark) × (n ≡ m)

  -- nor does a run, performed, cut or stopped by a refusal
  abbrev pub SizeStaysInRuns : Type 0
  SizeStaysInRuns = (acts : List Act) (m n : Meaning Mark Value) → Begun rules m acts n → n.size ≡ m.size

  -- a run of acts on a dark device changes nothing
  abbrev pub DarkRunsNothing : Type 0
  DarkRunsNothing = (acts : List Act) (m n : Meaning Mark Value) (r : Result (Unit {0}) Refusal) → m.dark ≡ true → RanOn rules m acts r n → n ≡ m

  -- a settled piece that no act touches stays settled at its value
  abbrev pub UntouchedStays : Type 0
  UntouchedStays =
      (S : ℕ → Bool) (acts : List Act) (m n : Meaning Mark Value)
      → ((i : ℕ) → S i ≡ true → is_unsettled (m.piece i) ≡ false)
      → Spares rules S acts
      → Begun rules m acts n
      → (i : ℕ) → S i ≡ true → n.piece i ≡ m.piece i

-- when power returns everything is settled
abbrev pub RestartSettles : (Mark Value : Type 0) → Type 0
RestartSettles Mark Value = (m n : Meaning Mark Value) → Restarted m n → Rests (contents n) n
