-- The newest setting of a record: in a list of transactions, and in the ring. Assumes nothing.
use Rattle.std.specs.Prelude.{ℕ, zero, suc, ◌-◌, cond, List, [], ◌∷◌, Some, None, Option, ◌==◌}
use Rattle.std.specs.Option.{option_map, unwrap_or}
use Rattle.ringlaws.specs.Layout.{Contents, before, used_between}
use Rattle.ringlaws.specs.TxnInfo.{Transaction, taken, count_in, numbers_in, good_count}
use Rattle.ringlaws.specs.Sound.{info_before, stepped}

-- the unit that a transaction gives a record, if it names it
unfoldable pub setting_of : Transaction → ℕ → Option (List ℕ)
setting_of [] r = None
setting_of (s ∷ t) r = cond (r == s.number) (Some s.unit) (setting_of t r)

-- the first of two answers that there is
abbrev pub or_else : {X : Type 0} → Option X → Option X → Option X
or_else None o = o
or_else (Some x) o = Some x

-- the unit that the newest transaction naming the record gives it; the oldest transaction comes first in the list
unfoldable pub latest : List Transaction → ℕ → Option (List ℕ)
latest [] r = None
latest (t ∷ ts) r = or_else (latest ts r) (setting_of t r)

-- a transaction laid over units by record number
abbrev pub lay : Transaction → (ℕ → List ℕ) → ℕ → List ℕ
lay t units r = unwrap_or (setting_of t r) (units r)

-- transactions laid over the homes of a disk, the oldest first, so that the newest wins
unfoldable pub laid : List Transaction → (ℕ → List ℕ) → ℕ → List ℕ
laid [] homes = homes
laid (t ∷ ts) homes = laid ts (lay t homes)

-- where a number stands in a list
unfoldable pub index_of : ℕ → List ℕ → Option ℕ
index_of r [] = None
index_of r (n ∷ ns) = cond (r == n) (Some 0) (option_map suc (index_of r ns))

-- Going back as `stepping_back` does, by Count alone, up to the first TxnInfo that names the record: the place of its record.
-- A Count that cannot be ends the search.
unfoldable pub seeking_back : ℕ → Contents → ℕ → ℕ → ℕ → ℕ → Option ℕ
seeking_back N c r steps place zero = None
seeking_back N c r zero place (suc left) = None
seeking_back N c r (suc steps) place (suc left) =
    cond (good_count (suc left) (info_before N c place))
    (or_else (option_map (λ k. before N place (taken (count_in (info_before N c place)) - k)) (index_of r (numbers_in (info_before N c place))))
    (seeking_back N c r steps (stepped N c place) (suc left - taken (count_in (info_before N c place)))))
    None

-- the newest place of a record in the ring; none if no transaction names it
abbrev pub newest : ℕ → Contents → ℕ → ℕ → ℕ → Option ℕ
newest N c head tail r = seeking_back N c r (used_between N head tail) tail (used_between N head tail)
