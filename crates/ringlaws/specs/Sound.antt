-- Stepping back from the tail, transaction by transaction, over the used places. Assumes nothing.
use Rattle.std.specs.Prelude.{◌≡◌, ℕ, zero, suc, ◌-◌, cond, List, [], ◌∷◌}
use Rattle.ringlaws.specs.Layout.{Contents, head_of, tail_of, place_at, after, before, used_between}
use Rattle.ringlaws.specs.TxnInfo.{Transaction, taken, count_in, numbers_in, good_info}

-- what stepping back comes to: the transactions, the oldest first, or the place of the first bad TxnInfo that it met
pub data Verdict : Type 0 where
  spelled : List Transaction → Verdict
  bad_at : ℕ → Verdict

-- the unit that has to be a TxnInfo, right before a place
abbrev pub info_before : ℕ → Contents → ℕ → List ℕ
info_before N c place = place_at c (before N place 1)

-- the settings of these numbers whose records lie from the k-th place after `first` on
unfoldable pub settings_at : ℕ → Contents → ℕ → ℕ → List ℕ → Transaction
settings_at N c first k [] = []
settings_at N c first k (n ∷ ns) = record { number = n; unit = place_at c (after N first k) } ∷ settings_at N c first (suc k) ns

-- the place where the transaction begins that ends right before a place
abbrev pub stepped : ℕ → Contents → ℕ → ℕ
stepped N c place = before N place (taken (count_in (info_before N c place)))

-- that transaction
abbrev pub transaction_before : ℕ → Contents → ℕ → Transaction
transaction_before N c place = settings_at N c (stepped N c place) 0 (numbers_in (info_before N c place))

-- From a place with `left` used places before it, and the transactions from there on in hand. A step takes at least one
-- place, so as many steps as places are always enough.
unfoldable pub stepping_back : ℕ → ℕ → Contents → ℕ → ℕ → ℕ → List Transaction → Verdict
stepping_back N B c steps place zero newer = spelled newer
stepping_back N B c zero place (suc left) newer = bad_at (before N place 1)
stepping_back N B c (suc steps) place (suc left) newer =
    cond (good_info B (suc left) (info_before N c place))
    (stepping_back N B c steps (stepped N c place) (suc left - taken (count_in (info_before N c place))) (transaction_before N c place ∷ newer))
    (bad_at (before N place 1))

-- from the tail, until exactly the used places are consumed
abbrev pub step_back : ℕ → ℕ → Contents → ℕ → ℕ → Verdict
step_back N B c head tail = stepping_back N B c (used_between N head tail) tail (used_between N head tail) []

-- the ring between head and tail is sound: stepping back ends with a list
abbrev pub SoundBetween : ℕ → ℕ → Contents → ℕ → ℕ → Type 0
SoundBetween N B c head tail = (ts : List Transaction) × (step_back N B c head tail ≡ spelled ts)

abbrev pub Sound : ℕ → ℕ → Contents → Type 0
Sound N B c = SoundBetween N B c (head_of c) (tail_of c)
