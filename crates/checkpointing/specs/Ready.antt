-- When a store's two devices can be read and checkpointed: they have power, are large enough, and hold a ring. Assumes nothing.
use Rattle.std.specs.Prelude.{◌≡◌, ℕ, ◌+◌, ◌≤◌, true, false, List}
use Rattle.device.specs.Words.{NvmMeaning, words_of}
use Rattle.device.specs.Sectors.{DiskMeaning}
use Rattle.ringlaws.specs.Layout.{is_ring, most_blocks}
use Rattle.ringlaws.specs.TxnInfo.{Transaction}
use Rattle.ringlaws.specs.Spells.{SpellsBetween}

-- both have power, a memory of at least N + 1 units, a disk of at least B blocks, and head and tail are places
pub record Fit (N B : ℕ) (nvm : NvmMeaning) (disk : DiskMeaning) (head tail : ℕ) : Type 0 where
  pub nvm_lit : nvm.dark ≡ false
  pub disk_lit : disk.dark ≡ false
  pub units : N + 1 ≤ nvm.size
  pub blocks : B ≤ disk.size
  pub few : B ≤ most_blocks
  pub ring : is_ring N head tail ≡ true

-- besides, the ring between head and tail spells ts
pub record Ready (N B : ℕ) (nvm : NvmMeaning) (disk : DiskMeaning) (head tail : ℕ) (ts : List Transaction) : Type 0 where
  pub fit : Fit N B nvm disk head tail
  pub spells : SpellsBetween N B (words_of nvm) head tail ts
