-- Fields of one width, side by side in words: in a word, field i lies from bit width × i up. Assumes nothing.
use Rattle.std.specs.Prelude.{◌≡◌, ℕ, zero, suc, ◌+◌, ◌*◌, ◌/◌, ◌%◌, ◌^◌, ◌<◌, List, slice_index}

-- field i of a word
abbrev pub field : (width word i : ℕ) → ℕ
field width word i = word / 2 ^ (width * i) % 2 ^ width

-- the word whose fields are f 0, f 1, .., f (n − 1)
abbrev pub packed : (width : ℕ) → (ℕ → ℕ) → (n : ℕ) → ℕ
packed width f zero = 0
packed width f (suc n) = f 0 + packed width (λ i. f (suc i)) n * 2 ^ width

-- word k of a row of fields f 0, f 1, .., each word holding `per` of them
abbrev pub word_of : (width per : ℕ) → (ℕ → ℕ) → (k : ℕ) → ℕ
word_of width per f k = packed width (λ i. f (k * per + i)) per

-- field s of a row of fields, each word holding `per` of them, whose first word is word `from` of a unit
abbrev pub field_at : (width per from : ℕ) → List ℕ → (s : ℕ) → ℕ
field_at width per from unit s = field width (slice_index unit (from + s / per)) (s % per)

-- a unit that holds the words of a row of fields holds each of the fields
abbrev pub FieldsComeBack : Type 0
FieldsComeBack =
    (width per from count : ℕ) (f : ℕ → ℕ) (unit : List ℕ) → 0 < per → ((s : ℕ) → f s < 2 ^ width)
    → ((k : ℕ) → k < count → slice_index unit (from + k) ≡ word_of width per f k)
    → (s : ℕ) → s < count * per → field_at width per from unit s ≡ f s

-- a word of a unit is made of its fields
abbrev pub WordsComeBack : Type 0
WordsComeBack =
    (width per from : ℕ) (unit : List ℕ) (k : ℕ) → slice_index unit (from + k) < 2 ^ (width * per)
    → word_of width per (field_at width per from unit) k ≡ slice_index unit (from + k)
