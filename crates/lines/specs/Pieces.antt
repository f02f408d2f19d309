-- The lines of a text and the fields of a line. A newline ends a line, a tab stands between two fields, and every other byte is part of a field.
use Rattle.std.specs.Prelude.{ℕ, cond, List, [], ◌∷◌, ◌==◌}

-- a byte put in front of the first piece; where there is no piece, it begins one
abbrev pub begun : ℕ → List (List ℕ) → List (List ℕ)
begun c [] = (c ∷ []) ∷ []
begun c (p ∷ ps) = (c ∷ p) ∷ ps

-- the pieces of some bytes: each mark closes a piece, and `last` are the pieces of nothing
unfoldable pub parted : ℕ → List (List ℕ) → List ℕ → List (List ℕ)
parted mark last [] = last
parted mark last (c ∷ cs) = cond (c == mark) ([] ∷ parted mark last cs) (begun c (parted mark last cs))

-- an empty text has no lines, so a newline at the very end opens no further one
abbrev pub lines_of : List ℕ → List (List ℕ)
lines_of text = parted 10 [] text

-- an empty line has one field, which is empty
abbrev pub fields_of : List ℕ → List (List ℕ)
fields_of line = parted 9 ([] ∷ []) line
