-- Examples of the room in a ring and of the records of a disk.
use Rattle.std.specs.Prelude.{◌≡◌, ℕ, true, false, cond, [], replicate, Some, None, Option, ◌==◌}
use Rattle.std.specs.Option.{option_map}
use Rattle.refusal.specs.Numbers.{number_of}
use Rattle.ringlaws.specs.Layout.{Contents, tail_word}
use Rattle.ringlaws.specs.TxnInfo.{Transaction}
use Rattle.calls.specs.Table.{zero_unit}
use Rattle.calls.specs.Plans.{is_full, set_refusal}

-- a ring whose head is place 0 and whose first places, so many, are used
abbrev pub used_ring : ℕ → Contents
used_ring n w = cond (w == tail_word) n 0

-- a transaction of so many records; only their number matters here
abbrev pub records : ℕ → Transaction
records n = replicate n (record { number = 0; unit = zero_unit })

-- the number that refuses a setting of record r in an empty transaction on a disk of B blocks, if any does
abbrev pub first_set : (B r : ℕ) → Option ℕ
first_set B r = option_map number_of (set_refusal B [] r)

pub record CallExamples : Type 0 where
  -- N = 32: an empty ring takes 30 records; with 2 places used 28 fit and 29 do not
  pub thirty_fit : is_full 32 (used_ring 0) (records 30) ≡ false
  pub twenty_eight_fit : is_full 32 (used_ring 2) (records 28) ≡ false
  pub twenty_nine_do_not : is_full 32 (used_ring 2) (records 29) ≡ true
  -- B = 1: record 15 passes, 16 is 31
  pub fifteen_passes : first_set 1 15 ≡ None
  pub sixteen_is31 : first_set 1 16 ≡ Some 31
