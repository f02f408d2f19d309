-- What the words of a simulated memory are, and how they change. Assumes nothing.
use Rattle.std.specs.Prelude.{◌≡◌, ℕ, ◌+◌, ◌*◌, ◌/◌, Bool, cond, List, slice_index_or}
use Rattle.std.specs.Borrow.{MutBor}
use Rattle.device.specs.Pieces.{settled, unsettled, is_unsettled}
use Rattle.device.specs.Words.{Word, waiting, flushed}
use Rattle.device.specs.Sectors.{any_below}
use Rattle.simulated.specs.Lists.{member, inside}
use Rattle.nvm_words.specs.declared.cell.Cell.{Cell}
use Rattle.nvm_words.specs.declared.cell.Cell.TheVariants.{Settled, Waiting, Flushed}

abbrev pub cell_word : Cell → Word
cell_word (Settled v) = settled v
cell_word (Waiting new old) = unsettled waiting old new
cell_word (Flushed new old) = unsettled flushed old new

-- the word w of some cells; past their end it is settled at 0
abbrev pub cells_word : List Cell → ℕ → Word
cells_word cs w = cell_word (slice_index_or cs w (Settled 0))

-- a line of some words holds an unsettled one
abbrev pub is_unsettled_line : (ℕ → Word) → ℕ → Bool
is_unsettled_line word l = any_below (λ k. is_unsettled (word (8 * l + k))) 8

-- what a change leaves in the place of the cell w stands for what `makes` makes of that word
abbrev pub Makes : (ℕ → MutBor Cell → Unit {0} → MutBor Cell → Type 0) → (ℕ → Word → Word) → Type 0
Makes leaves makes = (w : ℕ) (c r : MutBor Cell) → leaves w c tt r → cell_word r.now ≡ makes w (cell_word c.now)

-- done twice it is done once
abbrev pub Steady : (ℕ → Word → Word) → Type 0
Steady makes = (w : ℕ) (c : Word) → makes w (makes w c) ≡ makes w c

-- each word from .. to - 1 was changed by f, and no other
abbrev pub Within : ℕ → ℕ → (ℕ → Word → Word) → List Cell → List Cell → Type 0
Within from to f old new = (w : ℕ) → cells_word new w ≡ cond (inside from to w) (f w (cells_word old w)) (cells_word old w)

-- each word in the listed lines of eight was changed by f, and no other
abbrev pub Among : List ℕ → (ℕ → Word → Word) → List Cell → List Cell → Type 0
Among lines f old new = (w : ℕ) → cells_word new w ≡ cond (member (w / 8) lines) (f w (cells_word old w)) (cells_word old w)
