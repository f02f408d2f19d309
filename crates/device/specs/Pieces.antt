-- A piece of a device's contents: a word of a non-volatile memory, or a sector of a disk. Assumes nothing.
use Rattle.std.specs.Prelude.{◌≡◌, Bool, true, false, ◌⊎◌}

-- A settled piece has one value. An unsettled one has a mark, the settled value that a power cut may bring back, and the
-- present value that reading answers.
pub data Piece (Mark Value : Type 0) : Type 0 where
  settled : Value → Piece Mark Value
  unsettled : Mark → Value → Value → Piece Mark Value

abbrev pub settled_value : {Mark Value : Type 0} → Piece Mark Value → Value
settled_value (settled v) = v
settled_value (unsettled m s p) = s

abbrev pub present_value : {Mark Value : Type 0} → Piece Mark Value → Value
present_value (settled v) = v
present_value (unsettled m s p) = p

abbrev pub is_unsettled : {Mark Value : Type 0} → Piece Mark Value → Bool
is_unsettled (settled v) = false
is_unsettled (unsettled m s p) = true

-- a device that performs an act may settle a piece besides, always at its present value
abbrev pub MaySettle : {Mark Value : Type 0} → Piece Mark Value → Piece Mark Value → Type 0
MaySettle c d = (d ≡ c) ⊎ (d ≡ settled (present_value c))

-- what a piece may come back as when power returns: settled, at its settled or at its present value
abbrev pub ComesBack : {Mark Value : Type 0} → Piece Mark Value → Piece Mark Value → Type 0
ComesBack c d = (d ≡ settled (settled_value c)) ⊎ (d ≡ settled (present_value c))
