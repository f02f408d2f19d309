-- Between calls, with power: everything is settled, and the contents of the devices hold a table. Assumes nothing.
use Rattle.std.specs.Prelude.{◌≡◌, ℕ, ◌+◌, ◌<◌, ◌≤◌, List}
use Rattle.crash.specs.Pair.{Pair, PairRests}
use Rattle.ringlaws.specs.Layout.{Contents, ground_mark, ground_word, places_word, blocks_word, head_of, tail_of, least_places, most_places, most_blocks, records_of}
use Rattle.ringlaws.specs.TxnInfo.{Transaction}
use Rattle.ringlaws.specs.Spells.{Spells}
use Rattle.calls.specs.Table.{table}

-- devices of N + 1 units and B blocks, within the limits, settled at the contents c and e
pub record Ready (N B : ℕ) (c : Contents) (e : ℕ → List ℕ) (m : Pair) : Type 0 where
  pub least : least_places ≤ N
  pub most : N ≤ most_places
  pub some : 1 ≤ B
  pub few : B ≤ most_blocks
  pub units : m.nvm.size ≡ N + 1
  pub blocks : m.disk.size ≡ B
  pub rests : PairRests c e m

-- the contents c and e hold these records: unit 0 is right, the ring spells the transactions ts, and these laid over the disk are
-- the units
pub record Holds (N B : ℕ) (c : Contents) (e : ℕ → List ℕ) (ts : List Transaction) (units : ℕ → List ℕ) : Type 0 where
  pub mark : c ground_word ≡ ground_mark
  pub places : c places_word ≡ N
  pub blocks : c blocks_word ≡ B
  pub head : head_of c < N
  pub tail : tail_of c < N
  pub spells : Spells N B c ts
  pub same : (r : ℕ) → r < records_of B → table ts e r ≡ units r

-- both at once, of a pair of devices
pub record Keeps (N B : ℕ) (m : Pair) (ts : List Transaction) (units : ℕ → List ℕ) : Type 0 where
  pub words : Contents
  pub sectors : ℕ → List ℕ
  pub ready : Ready N B words sectors m
  pub holds : Holds N B words sectors ts units
