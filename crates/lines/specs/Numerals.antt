-- Numbers as a line has them: an unsigned decimal word, and a signed level of 16 bits.
use Rattle.std.specs.Prelude.{◌≡◌, ℕ, ◌+◌, ◌-◌, ◌*◌, ◌^◌, ◌<◌, cond, ◌&&◌, List, [], ◌∷◌, ℤ, pos, neg_ℤ, Some, None, decimal, Option, FitsSigned, ◌==◌, nat_le, nat_lt}
use Rattle.std.specs.Int.{w16}
use Rattle.std.specs.Str.{all_ascii_digits}
use Rattle.std.specs.Fmt.{signed_decimal}

-- the number that digits write after the number `n`
abbrev pub value_after : ℕ → List ℕ → ℕ
value_after n [] = n
value_after n (c ∷ cs) = value_after (n * 10 + (c - 48)) cs

-- the number that digits write after `n`, if all are digits and it is below 2^64
unfoldable pub word_after : ℕ → List ℕ → Option ℕ
word_after n digits = cond (all_ascii_digits digits && nat_lt (value_after n digits) (2 ^ 64)) (Some (value_after n digits)) None

-- a word: one or more digits, with any count of leading zeros
unfoldable pub word_of : List ℕ → Option ℕ
word_of [] = None
word_of (c ∷ cs) = word_after 0 (c ∷ cs)

-- a number above zero, or below, if it fits 16 bits
abbrev pub raised : Option ℕ → Option ℤ
raised None = None
raised (Some n) = cond (nat_le n 32767) (Some (pos n)) None

abbrev pub lowered : Option ℕ → Option ℤ
lowered None = None
lowered (Some n) = cond (nat_le n 32768) (Some (neg_ℤ (pos n))) None

-- a level: a word, or a minus and a word
unfoldable pub level_of : List ℕ → Option ℤ
level_of [] = None
level_of (c ∷ cs) = cond (c == 45) (lowered (word_of cs)) (raised (word_of (c ∷ cs)))

-- a word that was written is read back, and so is a level
pub record ReadBack : Type 0 where
  pub words : (n : ℕ) → n < 2 ^ 64 → word_of (decimal n) ≡ Some n
  pub levels : (z : ℤ) → FitsSigned w16 z → level_of (signed_decimal z) ≡ Some z
