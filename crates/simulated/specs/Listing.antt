-- What a list of pending lines or blocks means. Assumes nothing.
use Rattle.std.specs.Prelude.{ℕ, cond, List, [], ◌∷◌, ◌++◌, vec_items}
use Rattle.simulated.specs.Lists.{member}
use Rattle.simulated.specs.declared.pending.Pending.{Pending}

-- the numbers, the one that came earliest first
abbrev pub lines_of : Pending → List ℕ
lines_of p = vec_items p.queue

-- one more number at the end; a number that is there keeps its place
abbrev pub with_line : List ℕ → ℕ → List ℕ
with_line lines b = cond (member b lines) lines (lines ++ b ∷ [])

-- without the earliest
abbrev pub without_first : List ℕ → List ℕ
without_first [] = []
without_first (x ∷ xs) = xs
