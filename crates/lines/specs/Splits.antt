-- What it means that a text is split into lines and a line into fields: nothing is lost, no mark is left in a piece, and no other split does that.
use Rattle.std.specs.Prelude.{◌≡◌, ℕ, ◌<◌, cond, List, [], ◌∷◌, ◌++◌, length, ◌==◌, ◌≢◌}
use Rattle.std.specs.List.{AllByRecursion}

-- no byte of the piece is the mark
abbrev pub Free : ℕ → List ℕ → Type 0
Free mark piece = AllByRecursion (λ c. c ≢ mark) piece

-- the fields with a tab between each two
abbrev pub tabbed : List (List ℕ) → List ℕ
tabbed [] = []
tabbed (f ∷ []) = f
tabbed (f ∷ (g ∷ gs)) = f ++ (9 ∷ tabbed (g ∷ gs))

-- the lines with a newline after each
abbrev pub ended : List (List ℕ) → List ℕ
ended [] = []
ended (l ∷ ls) = l ++ (10 ∷ ended ls)

-- the last byte of a text, or `c` of an empty one
abbrev pub last_or : ℕ → List ℕ → ℕ
last_or c [] = c
last_or c (d ∷ ds) = last_or d ds

-- the text with the newline that its last line may lack
abbrev pub closed : List ℕ → List ℕ
closed text = text ++ cond (last_or 10 text == 10) [] (10 ∷ [])

-- the lines of a text
pub record Lined (text : List ℕ) (lines : List (List ℕ)) : Type 0 where
  pub free : AllByRecursion (Free 10) lines
  pub whole : ended lines ≡ closed text
  pub only : (others : List (List ℕ)) → AllByRecursion (Free 10) others → ended others ≡ closed text → others ≡ lines

-- the fields of a line
pub record Fielded (line : List ℕ) (fields : List (List ℕ)) : Type 0 where
  pub some : 0 < length fields
  pub free : AllByRecursion (Free 9) fields
  pub whole : tabbed fields ≡ line
  pub only : (others : List (List ℕ)) → 0 < length others → AllByRecursion (Free 9) others → tabbed others ≡ line → others ≡ fields
