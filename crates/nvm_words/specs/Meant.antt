-- What the words of a simulated memory mean, and how they may change. Assumes nothing.
use Rattle.std.specs.Prelude.{◌≡◌, ℕ, ◌/◌, cond, List, vec_items, ◌==◌}
use Rattle.device.specs.Pieces.{settled, present_value}
use Rattle.device.specs.Words.{Word, WordMark, NvmMeaning}
use Rattle.simulated.specs.declared.supply.Supply.{Supply}
use Rattle.simulated.specs.Listing.{lines_of}
use Rattle.simulated.specs.Natures.{Simulated}
use Rattle.nvm_words.specs.declared.words.Words.{Words}
use Rattle.nvm_words.specs.Cells.{cells_word}
pub use Rattle.nvm_words.specs.Cells.{is_unsettled_line}

abbrev pub meant : Words → NvmMeaning
meant n = record {
  size = n.units;
  dark = n.supply.dark;
  piece = cells_word (vec_items n.cells);
}

-- the meaning with the number of acts that are left
abbrev pub simulated_nvm : Words → Simulated WordMark ℕ
simulated_nvm n = record { meaning = meant n; left = n.supply.left }

-- the lines that hold an unsettled word, the one that became so earliest first
abbrev pub unsettled_lines : Words → List ℕ
unsettled_lines n = lines_of n.pending

-- the words of a line settle
abbrev pub line_settled : ℕ → ℕ → Word → Word
line_settled l w c = cond (w / 8 == l) (settled (present_value c)) c

-- n became n': its size stayed, its power is `supply`, each word is what `makes` makes of it, and the lines `ls` are unsettled
pub record Became (supply : Supply) (makes : ℕ → Word → Word) (ls : List ℕ) (n n' : Words) : Type 0 where
  pub size : n'.units ≡ n.units
  pub power : n'.supply ≡ supply
  pub words : (w : ℕ) → (meant n').piece w ≡ makes w ((meant n).piece w)
  pub lines : unsettled_lines n' ≡ ls
