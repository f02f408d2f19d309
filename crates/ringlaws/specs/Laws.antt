-- What holds of every ring: the theorems. head and tail are places of a ring of N.
use Rattle.std.specs.Prelude.{◌≡◌, ℕ, ◌+◌, ◌*◌, ◌<◌, ◌≤◌, true, false, ◌⊎◌, List, [], ◌∷◌, ◌++◌, length, Some, slice_index, slice_index_or}
use Rattle.std.specs.Option.{option_map, unwrap_or}
use Rattle.ringlaws.specs.Layout.{Contents, head_of, tail_of, place_at, after, before, used_between, used, units_from}
use Rattle.ringlaws.specs.TxnInfo.{Transaction, taken, good_info}
use Rattle.ringlaws.specs.Spells.{written, Fair, AllFair, SpellsBetween, Spells}
use Rattle.ringlaws.specs.Sound.{spelled, bad_at, step_back}
use Rattle.ringlaws.specs.Newest.{latest, lay, laid, newest}
use Rattle.ringlaws.specs.Appends.{has_room, Appended, SamePlaces}

-- Stepping back gives a list exactly if that list spells the ring.
abbrev pub SoundExactlyIfSpelled : Type 0
SoundExactlyIfSpelled =
    (N B : ℕ) (c : Contents) (head tail : ℕ) → head < N → tail < N → (ts : List Transaction)
    → (step_back N B c head tail ≡ spelled ts → SpellsBetween N B c head tail ts)
    × (SpellsBetween N B c head tail ts → step_back N B c head tail ≡ spelled ts)

-- No ring is spelled by two lists.
abbrev pub OnlyOneList : Type 0
OnlyOneList =
    (N B : ℕ) (c : Contents) (head tail : ℕ) → head < N → tail < N → (ts us : List Transaction)
    → SpellsBetween N B c head tail ts → SpellsBetween N B c head tail us → ts ≡ us

-- The list, written from the head on, gives every word of the used places back.
abbrev pub EveryWordComesBack : Type 0
EveryWordComesBack =
    (N B : ℕ) (c : Contents) (head tail : ℕ) (ts : List Transaction) → SpellsBetween N B c head tail ts
    → (length (written ts) ≡ used_between N head tail)
    × ((k j : ℕ) → k < used_between N head tail → j < 32 → c (32 * (after N head k + 1) + j) ≡ slice_index (slice_index_or (written ts) k []) j)

-- the list that stepping back gives: it spells the ring, no other does, and written from the head on it gives every word back
pub record IsTheList (N B : ℕ) (c : Contents) (head tail : ℕ) (ts : List Transaction) : Type 0 where
  pub steps : step_back N B c head tail ≡ spelled ts
  pub spells : SpellsBetween N B c head tail ts
  pub only : (us : List Transaction) → SpellsBetween N B c head tail us → us ≡ ts
  pub words : (k j : ℕ) → k < used_between N head tail → j < 32 → c (32 * (after N head k + 1) + j) ≡ slice_index (slice_index_or (written ts) k []) j

abbrev pub TheListIsTheOne : Type 0
TheListIsTheOne =
    (N B : ℕ) (c : Contents) (head tail : ℕ) → head < N → tail < N → (ts : List Transaction) → step_back N B c head tail ≡ spelled ts → IsTheList N B c head tail ts

-- p is the first bad TxnInfo met: behind it lie good transactions up to the tail, it itself is not good, and no list spells
-- the ring
pub record FirstBad (N B : ℕ) (c : Contents) (head tail p : ℕ) : Type 0 where
  pub left : ℕ
  pub newer : List Transaction
  pub some : 0 < left
  pub all : left + length (written newer) ≡ used_between N head tail
  pub fair : AllFair B newer
  pub behind : units_from N c (after N head left) (length (written newer)) ≡ written newer
  pub place : p ≡ before N (after N head left) 1
  pub bad : good_info B left (place_at c p) ≡ false
  pub none : (ts : List Transaction) → SpellsBetween N B c head tail ts → ⊥

abbrev pub ABadPlaceIsTheFirst : Type 0
ABadPlaceIsTheFirst =
    (N B : ℕ) (c : Contents) (head tail p : ℕ) → head < N → tail < N → step_back N B c head tail ≡ bad_at p → (p < N) × FirstBad N B c head tail p

-- k steps forward from the place k before a place lead back to it.
abbrev pub ThereAndBack : Type 0
ThereAndBack = (N place k : ℕ) → place < N → k ≤ N → after N (before N place k) k ≡ place

-- In a ring that is spelled, the newest place of a record holds the unit that the list has for it last, and there is none if
-- the list has none.
abbrev pub NewestHoldsTheLatest : Type 0
NewestHoldsTheLatest =
    (N B : ℕ) (c : Contents) (head tail : ℕ) → head < N → tail < N → (ts : List Transaction) → SpellsBetween N B c head tail ts
    → (r : ℕ) → option_map (place_at c) (newest N c head tail r) ≡ latest ts r

-- A newest place is a place.
abbrev pub NewestIsAPlace : Type 0
NewestIsAPlace = (N : ℕ) (c : Contents) (head tail r p : ℕ) → head < N → tail < N → newest N c head tail r ≡ Some p → p < N

-- Transactions laid over homes give a record its latest unit, and the home's where they do not name it.
abbrev pub LaidIsTheLatest : Type 0
LaidIsTheLatest = (ts : List Transaction) (homes : ℕ → List ℕ) (r : ℕ) → laid ts homes r ≡ unwrap_or (latest ts r) (homes r)

-- One transaction more is laid over what the others made.
abbrev pub LaidOneMore : Type 0
LaidOneMore = (ts : List Transaction) (t : Transaction) (homes : ℕ → List ℕ) → laid (ts ++ t ∷ []) homes ≡ lay t (laid ts homes)

-- Homes that already hold what the transactions give them, some or all, make the same table.
abbrev pub LaidAgainIsTheSame : Type 0
LaidAgainIsTheSame =
    (ts : List Transaction) (homes mixed : ℕ → List ℕ) (r : ℕ) → (mixed r ≡ homes r) ⊎ (mixed r ≡ laid ts homes r) → laid ts mixed r ≡ laid ts homes r

-- A ring with one more transaction spells the old list and that transaction, and has that many more places in use.
abbrev pub AppendedSpellsOneMore : Type 0
AppendedSpellsOneMore =
    (N B : ℕ) (c d : Contents) (ts : List Transaction) (t : Transaction) → head_of c < N → tail_of c < N
    → Spells N B c ts → Fair B t → has_room N (used N c) (length t) ≡ true → Appended N t c d
    → Spells N B d (ts ++ t ∷ []) × (used N d ≡ used N c + taken (length t))

-- Nothing matters but head, tail and the used places.
abbrev pub OnlyUsedPlacesMatter : Type 0
OnlyUsedPlacesMatter =
    (N B : ℕ) (c d : Contents) (ts : List Transaction) → head_of c < N → tail_of c < N
    → tail_of d ≡ tail_of c → SamePlaces N (used N c) c d → Spells N B c ts → Spells N B d ts

-- An empty ring spells the empty list.
abbrev pub EmptySpellsNothing : Type 0
EmptySpellsNothing = (N B : ℕ) (c : Contents) → head_of c < N → tail_of c ≡ head_of c → Spells N B c []
