-- A transaction is a list of settings. Its TxnInfo is the unit behind its records that names them: their numbers, zeros, Count
-- and Magic. Assumes nothing.
use Rattle.std.specs.Prelude.{ℕ, ◌+◌, ◌-◌, Bool, true, false, not, ◌&&◌, ◌||◌, List, [], ◌∷◌, ◌++◌, map, length, take, drop, replicate, ◌==◌, nat_le, nat_lt, slice_index}
use Rattle.std.specs.List.{list_all}
use Rattle.ringlaws.specs.declared.setting.Setting.{Setting}
use Rattle.ringlaws.specs.Layout.{records_of}

abbrev pub Transaction : Type 0
Transaction = List Setting

abbrev pub numbers_of : Transaction → List ℕ
numbers_of t = map (λ s. s.number) t

abbrev pub record_units : Transaction → List (List ℕ)
record_units t = map (λ s. s.unit) t

abbrev pub magic : ℕ
magic = 0x7E5A31C49B0D26F8

-- a transaction has 1 to 30 records
abbrev pub count_limit : ℕ
count_limit = 30

-- the words of a TxnInfo that hold Count and Magic
abbrev pub count_word : ℕ
count_word = 30

abbrev pub magic_word : ℕ
magic_word = 31

-- the places that the TxnInfo of so many records takes
abbrev pub info_length : ℕ → ℕ
info_length count = 1

-- the places that a transaction of so many records takes
abbrev pub taken : ℕ → ℕ
taken count = count + info_length count

-- the TxnInfo of these numbers
abbrev pub info_unit : List ℕ → List ℕ
info_unit numbers = numbers ++ (replicate (count_limit - length numbers) 0 ++ (length numbers ∷ (magic ∷ [])))

-- What a unit says if it is read as a TxnInfo.
abbrev pub count_in : List ℕ → ℕ
count_in u = slice_index u count_word

abbrev pub numbers_in : List ℕ → List ℕ
numbers_in u = take (count_in u) u

abbrev pub padding_in : List ℕ → List ℕ
padding_in u = take (count_limit - count_in u) (drop (count_in u) u)

unfoldable pub member : ℕ → List ℕ → Bool
member x [] = false
member x (y ∷ ys) = x == y || member x ys

unfoldable pub distinct : List ℕ → Bool
distinct [] = true
distinct (x ∷ xs) = not (member x xs) && distinct xs

unfoldable pub all_below : ℕ → List ℕ → Bool
all_below limit xs = list_all (λ x. nat_lt x limit) xs

unfoldable pub all_zero : List ℕ → Bool
all_zero xs = list_all (λ x. x == 0) xs

-- Count is 1 to 30, and the transaction fits the used places that are left
abbrev pub good_count : ℕ → List ℕ → Bool
good_count left u = nat_le 1 (count_in u) && (nat_le (count_in u) count_limit && nat_le (taken (count_in u)) left)

-- the numbers are records of the disk and all different
abbrev pub good_numbers : ℕ → List ℕ → Bool
good_numbers B numbers = all_below (records_of B) numbers && distinct numbers

-- a unit that is a TxnInfo, with so many used places left up to it and itself
abbrev pub good_info : ℕ → ℕ → List ℕ → Bool
good_info B left u = slice_index u magic_word == magic && (good_count left u && (good_numbers B (numbers_in u) && all_zero (padding_in u)))
