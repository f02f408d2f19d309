-- What the buffered memory means. Assumes nothing.
use Rattle.std.specs.Prelude.{ℕ, ◌/◌, Bool, false, cond, Some, None, Option, vec_items, vec_len, ◌==◌, slice_index}
use Rattle.device.specs.Pieces.{settled, unsettled}
use Rattle.device.specs.Words.{Word, NvmMeaning, waiting}
use Rattle.odd_nvm.specs.declared.devices.Held.{Held}
use Rattle.odd_nvm.specs.declared.devices.BufferedNvm.{BufferedNvm}

-- whether the word w is in a buffer
abbrev pub is_held : Option Held → ℕ → Bool
is_held None w = false
is_held (Some h) w = h.word == w

-- the word w with its present value p: it waits if it is in the buffer
abbrev pub buffered_word : Option Held → ℕ → ℕ → Word
buffered_word None w p = settled p
buffered_word (Some h) w p = cond (h.word == w) (unsettled waiting h.old p) (settled p)

abbrev pub buffered_meaning : BufferedNvm → NvmMeaning
buffered_meaning n = record { size = vec_len n.words / 32; dark = false; piece = λ w. buffered_word n.buffer w (slice_index (vec_items n.words) w) }
