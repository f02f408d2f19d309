-- The table: what the records of a store are. Assumes nothing.
use Rattle.std.specs.Prelude.{ℕ, ◌+◌, ◌*◌, ◌/◌, ◌%◌, Bool, false, ◌||◌, List, [], ◌∷◌, map, replicate, ◌==◌, slice_index}
use Rattle.std.specs.List.{range_with_len}
use Rattle.device.specs.Sectors.{disk_word}
use Rattle.ringlaws.specs.Layout.{Contents, home_block, home_word, head_of, tail_of}
use Rattle.ringlaws.specs.TxnInfo.{Transaction}
use Rattle.ringlaws.specs.Sound.{Verdict, spelled, bad_at, step_back}
use Rattle.ringlaws.specs.Newest.{laid}

-- the unit at the home of record r, in the sectors of a disk
unfoldable pub home_unit : (ℕ → List ℕ) → ℕ → List ℕ
home_unit sectors r = map (λ i. disk_word sectors (512 * home_block r + home_word r + i)) (range_with_len 0 32)

-- the transactions that a ring of N places spells, the oldest first; an unsound ring, which no mount accepts, counts as empty
abbrev pub transactions_of : Verdict → List Transaction
transactions_of (spelled ts) = ts
transactions_of (bad_at place) = []

abbrev pub ring_of : ℕ → ℕ → Contents → List Transaction
ring_of N B words = transactions_of (step_back N B words (head_of words) (tail_of words))

-- The table: the disk's present contents with the ring's transactions laid over it, the oldest first. Record r is this unit.
abbrev pub table : List Transaction → (ℕ → List ℕ) → ℕ → List ℕ
table ts sectors r = laid ts (home_unit sectors) r

-- a record that is absent is 32 zero words
abbrev pub zero_unit : List ℕ
zero_unit = replicate 32 0

-- the 512 words of a block as the table has them: its 16 records, one after another
unfoldable pub table_block : (ℕ → List ℕ) → ℕ → List ℕ
table_block units b = map (λ i. slice_index (units (16 * b + i / 32)) (i % 32)) (range_with_len 0 512)

-- whether a transaction names a record whose home is in block b
unfoldable pub names_in : Transaction → ℕ → Bool
names_in [] b = false
names_in (s ∷ t) b = home_block s.number == b || names_in t b

-- whether block b is home to a record that some transaction names
unfoldable pub is_named : List Transaction → ℕ → Bool
is_named [] b = false
is_named (t ∷ ts) b = names_in t b || is_named ts b
