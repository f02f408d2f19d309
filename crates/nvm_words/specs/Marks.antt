-- What two values and a mark say of a word. Assumes nothing.
use Rattle.std.specs.Prelude.{ℕ, Bool, true, false, List, slice_index, slice_index_or}
use Rattle.device.specs.Pieces.{settled, unsettled}
use Rattle.device.specs.Words.{Word, waiting, flushed}
use Rattle.nvm_words.specs.declared.mark.Mark.{Mark}
use Rattle.nvm_words.specs.declared.mark.Mark.TheVariants.{Settled, Waiting, Flushed}

-- A word by its settled value, its present value and its mark. A word that is marked settled has its present value: the other
-- is not looked at, so that two lists that disagree there still mean one thing.
abbrev pub word_of : ℕ → ℕ → Mark → Word
word_of s p Settled = settled p
word_of s p Waiting = unsettled waiting s p
word_of s p Flushed = unsettled flushed s p

-- the word w by three lists; past their ends it is settled at 0
abbrev pub words_in : List ℕ → List ℕ → List Mark → ℕ → Word
words_in ss ps ms w = word_of (slice_index ss w) (slice_index ps w) (slice_index_or ms w Settled)

abbrev pub is_marked : Mark → Bool
is_marked Settled = false
is_marked Waiting = true
is_marked Flushed = true

abbrev pub mark_of : Word → Mark
mark_of (settled v) = Settled
mark_of (unsettled waiting s p) = Waiting
mark_of (unsettled flushed s p) = Flushed
