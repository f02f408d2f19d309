-- What a memory means that is made of three lists: settled values, present values and marks. Assumes nothing.
use Rattle.std.specs.Prelude.{◌≡◌, ℕ, ◌*◌, ◌/◌, min, false, cond, List, [], length, filter, nat_lt}
use Rattle.std.specs.List.{range_with_len}
use Rattle.device.specs.Pieces.{settled}
use Rattle.device.specs.Words.{Word, WordMark}
use Rattle.simulated.specs.Natures.{Simulated}
use Rattle.nvm_words.specs.declared.mark.Mark.{Mark}
use Rattle.nvm_words.specs.declared.words.Words.{Words}
use Rattle.nvm_words.specs.Marks.{words_in}
use Rattle.nvm_words.specs.Meant.{simulated_nvm, unsettled_lines, is_unsettled_line}

-- the whole units in the shortest list
abbrev pub units_in : List ℕ → List ℕ → List Mark → ℕ
units_in ss ps ms = min (min (length ss) (length ps)) (length ms) / 32

-- each word within those units is what the lists say; what is longer is dropped
abbrev pub made_word : List ℕ → List ℕ → List Mark → ℕ → Word
made_word ss ps ms w = cond (nat_lt w (32 * units_in ss ps ms)) (words_in ss ps ms w) (settled 0)

abbrev pub made_of : List ℕ → List ℕ → List Mark → ℕ → Simulated WordMark ℕ
made_of ss ps ms acts = record { meaning = record { size = units_in ss ps ms; dark = false; piece = made_word ss ps ms }; left = acts }

-- the lines that hold an unsettled word, in ascending order: the lowest counts as the one that became so earliest
abbrev pub made_lines : List ℕ → List ℕ → List Mark → List ℕ
made_lines ss ps ms = filter (is_unsettled_line (made_word ss ps ms)) (range_with_len 0 (4 * units_in ss ps ms))

-- some units of these words, with power for a number of acts
pub record MadeOf (units : ℕ) (word : ℕ → Word) (acts : ℕ) (n : Words) : Type 0 where
  pub state : simulated_nvm n ≡ record { meaning = record { size = units; dark = false; piece = word }; left = acts }
  pub lines : unsettled_lines n ≡ filter (is_unsettled_line word) (range_with_len 0 (4 * units))

pub record Made (ss ps : List ℕ) (ms : List Mark) (acts : ℕ) (n : Words) : Type 0 where
  pub state : simulated_nvm n ≡ made_of ss ps ms acts
  pub lines : unsettled_lines n ≡ made_lines ss ps ms

-- a memory of some units, settled at zero
abbrev pub zeroed_of : ℕ → ℕ → Simulated WordMark ℕ
zeroed_of units acts = record { meaning = record { size = units; dark = false; piece = λ _. settled 0 }; left = acts }

pub record Zeroed (units acts : ℕ) (n : Words) : Type 0 where
  pub state : simulated_nvm n ≡ zeroed_of units acts
  pub lines : unsettled_lines n ≡ []
