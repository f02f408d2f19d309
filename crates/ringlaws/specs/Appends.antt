-- A transaction added to the ring: what its places, the tail and everything else hold then. Assumes nothing.
use Rattle.std.specs.Prelude.{◌≡◌, ℕ, ◌+◌, ◌-◌, ◌*◌, ◌<◌, ◌≤◌, Bool, [], length, ◌≢◌, nat_le, slice_index_or}
use Rattle.ringlaws.specs.Layout.{Contents, head_of, tail_of, tail_word, place_at, after}
use Rattle.ringlaws.specs.TxnInfo.{Transaction, taken}
use Rattle.ringlaws.specs.Spells.{units_of}

-- There is room for so many more records. One place always stays unused: a full ring would have its tail at its head, and
-- look empty.
abbrev pub has_room : ℕ → ℕ → ℕ → Bool
has_room N inUse count = nat_le (inUse + taken count) (N - 1)

-- where the tail comes to lie
abbrev pub tail_after : ℕ → Contents → Transaction → ℕ
tail_after N c t = after N (tail_of c) (taken (length t))

-- d is c with a transaction's units in the places from the tail on, and the tail moved
pub record Appended (N : ℕ) (t : Transaction) (c d : Contents) : Type 0 where
  pub tail : tail_of d ≡ tail_after N c t
  pub unit_zero : (w : ℕ) → w < 32 → (w ≢ tail_word) → d w ≡ c w
  pub units : (i : ℕ) → i < taken (length t) → place_at d (after N (tail_of c) i) ≡ slice_index_or (units_of t) i []
  pub others : (p : ℕ) → p < N → ((i : ℕ) → i < taken (length t) → p ≢ after N (tail_of c) i) → place_at d p ≡ place_at c p
  pub beyond : (w : ℕ) → 32 * (N + 1) ≤ w → d w ≡ c w

-- d has c's head, and c's units in the n places from there on
pub record SamePlaces (N n : ℕ) (c d : Contents) : Type 0 where
  pub head : head_of d ≡ head_of c
  pub places : (k : ℕ) → k < n → place_at d (after N (head_of c) k) ≡ place_at c (after N (head_of c) k)
