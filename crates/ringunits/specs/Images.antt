-- A ring in a list of words, and what writing to it leaves. Assumes nothing.
use Rattle.std.specs.Prelude.{◌≡◌, ℕ, ◌+◌, ◌*◌, ◌/◌, ◌<◌, Bool, true, false, ◌&&◌, List, [], length, Some, None, Option, ◌≢◌, nat_le, slice_index, slice_index_or}
use Rattle.ringlaws.specs.Layout.{Contents, head_of, tail_of, most_places, is_ring, used, unit_at, after}
use Rattle.ringlaws.specs.TxnInfo.{Transaction, count_limit, taken}
use Rattle.ringlaws.specs.Appends.{has_room, Appended}

-- the contents of an image
abbrev pub contents_of : List ℕ → Contents
contents_of image w = slice_index image w

-- one unit is filled with these words, and all else stays
pub record Filled (unit : ℕ) (words old new : List ℕ) : Type 0 where
  pub long : length new ≡ length old
  pub here : unit_at (contents_of new) unit ≡ words
  pub others : (w : ℕ) → (w / 32 ≢ unit) → slice_index new w ≡ slice_index old w

-- n places from a place on are filled with the first n of these units, and all else stays
pub record FilledPlaces (N place n : ℕ) (units : List (List ℕ)) (old new : List ℕ) : Type 0 where
  pub long : length new ≡ length old
  pub here : (i : ℕ) → i < n → unit_at (contents_of new) (after N place i + 1) ≡ slice_index_or units i []
  pub others : (w : ℕ) → ((i : ℕ) → i < n → w / 32 ≢ after N place i + 1) → slice_index new w ≡ slice_index old w

-- an image holds a ring of N places with room for a transaction of so many records
abbrev pub can_append : ℕ → List ℕ → ℕ → Bool
can_append N image count =
    nat_le N most_places && (nat_le (32 * (N + 1)) (length image) && (is_ring N (head_of (contents_of image)) (tail_of (contents_of image))
    && (nat_le 1 count && (nat_le count count_limit && has_room N (used N (contents_of image)) count))))

-- a transaction is appended, and the places then used are answered; or it cannot be, and nothing changes
abbrev pub Appends : ℕ → Transaction → List ℕ → Option ℕ → List ℕ → Type 0
Appends N t old (Some n) new =
    (can_append N old (length t) ≡ true) × (length new ≡ length old) × (n ≡ used N (contents_of old) + taken (length t)) × Appended N t (contents_of old) (contents_of new)
Appends N t old None new = (can_append N old (length t) ≡ false) × (new ≡ old)
