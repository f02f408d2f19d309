-- What a ring spells, from the writing side: the used places hold these transactions, one after another. Assumes nothing.
use Rattle.std.specs.Prelude.{◌≡◌, ℕ, ◌≤◌, true, List, [], ◌∷◌, ◌++◌, length}
use Rattle.ringlaws.specs.Layout.{Contents, head_of, tail_of, used_between, units_from, records_of}
use Rattle.ringlaws.specs.TxnInfo.{Transaction, numbers_of, record_units, info_unit, count_limit, all_below, distinct}

-- the units of a transaction in the order of their places: its records, then its TxnInfo
abbrev pub units_of : Transaction → List (List ℕ)
units_of t = record_units t ++ info_unit (numbers_of t) ∷ []

-- the units of a list of transactions, the oldest transaction first
unfoldable pub written : List Transaction → List (List ℕ)
written [] = []
written (t ∷ ts) = units_of t ++ written ts

-- each unit has 32 words
abbrev pub Whole : List (List ℕ) → Type 0
Whole [] = Unit {0}
Whole (u ∷ us) = (length u ≡ 32) × Whole us

-- a transaction that may be committed on a disk of B blocks: 1 to 30 records of the disk, all different
pub record Fair (B : ℕ) (t : Transaction) : Type 0 where
  pub least : 1 ≤ length t
  pub most : length t ≤ count_limit
  pub below : all_below (records_of B) (numbers_of t) ≡ true
  pub apart : distinct (numbers_of t) ≡ true
  pub whole : Whole (record_units t)

abbrev pub AllFair : ℕ → List Transaction → Type 0
AllFair B [] = Unit {0}
AllFair B (t ∷ ts) = Fair B t × AllFair B ts

-- the used places between head and tail, read from the head on, are what these transactions are written as
pub record SpellsBetween (N B : ℕ) (c : Contents) (head tail : ℕ) (ts : List Transaction) : Type 0 where
  pub fair : AllFair B ts
  pub places : units_from N c head (used_between N head tail) ≡ written ts

-- the ring, with head and tail as unit 0 has them, spells this list, the oldest transaction first
abbrev pub Spells : ℕ → ℕ → Contents → List Transaction → Type 0
Spells N B c ts = SpellsBetween N B c (head_of c) (tail_of c) ts
