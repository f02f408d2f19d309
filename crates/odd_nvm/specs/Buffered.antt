-- What the acts do to a buffered word. Assumes nothing.
use Rattle.std.specs.Prelude.{◌≡◌, ℕ, ◌*◌, ◌^◌, ◌<◌, ◌≤◌, Bool, true, false, cond, Some, None, Option, ◌==◌, slice_index, refl}
use Rattle.std.proofs.Common.{◌∙◌, arith}
use Rattle.std.specs.Option.{ForSome}
use Rattle.std.proofs.lemmas.Bool.Decides.{nat_tests}
use Rattle.device.specs.Pieces.{settled, unsettled, is_unsettled}
use Rattle.device.specs.Words.{waiting}
use Rattle.odd_nvm.specs.declared.devices.Held.{Held}
use Rattle.odd_nvm.specs.declared.devices.BufferedNvm.{BufferedNvm}
use Rattle.odd_nvm.specs.Buffers.{is_held, buffered_word, buffered_meaning}

-- a word is unsettled if it is in the buffer
pub held_word : (b : Option Held) (w p : ℕ) → is_unsettled (buffered_word b w p) ≡ is_held b w
held_word None w p = refl
held_word (Some h) w p = by_test (h.word == w)
  where
    by_test : (t : Bool) → is_unsettled (cond t (unsettled waiting h.old p) (settled p)) ≡ t
    by_test true = refl
    by_test false = refl

-- the number of a word fits a `usize`
pub fits : (n : BufferedNvm) → 32 * (buffered_meaning n).size < 2 ^ 64
fits n = omega (arith, n.words.ok.1, n.words.small)

-- nothing waits beyond the size
pub beyond : (n : BufferedNvm) (w : ℕ) → 32 * (buffered_meaning n).size ≤ w → is_unsettled ((buffered_meaning n).piece w) ≡ false
beyond n w far = held_word n.buffer w (slice_index n.words.items w) ∙ unheld n.buffer n.near
  where
    unheld : (b : Option Held) → ForSome b (λ h. h.word < n.words.len) → is_held b w ≡ false
    unheld None near = refl
    unheld (Some h) near = let below = near h refl in grind (arith, nat_tests, below, far, n.whole)
