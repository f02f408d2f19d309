-- The fields of a line by their places, as they stand and as numbers. A field that is not there is empty.
use Rattle.std.specs.Prelude.{ℕ, List, [], ℤ, Option, slice_index_or}
use Rattle.lines.specs.Numerals.{word_of, level_of}

-- the field at a place, counted from 0
abbrev pub field_at : List (List ℕ) → ℕ → List ℕ
field_at fields k = slice_index_or fields k []

-- the word in a field
abbrev pub word_at : List (List ℕ) → ℕ → Option ℕ
word_at fields k = word_of (field_at fields k)

-- the level in a field
abbrev pub level_at : List (List ℕ) → ℕ → Option ℤ
level_at fields k = level_of (field_at fields k)
