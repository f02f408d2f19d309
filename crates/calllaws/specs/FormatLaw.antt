-- What a format comes to, and the settling at the start of a format and of a mount, on devices with any contents. Assumes nothing.
use Rattle.std.specs.Prelude.{◌≡◌, ℕ, ◌+◌, ◌*◌, ◌≤◌, false, []}
use Rattle.device.specs.Pieces.{is_unsettled}
use Rattle.device.specs.Words.{words_of}
use Rattle.device.specs.Sectors.{sectors_of}
use Rattle.crash.specs.Pair.{Pair, PerformedPair, PairRests, PairAccepts, settling_both}
use Rattle.ringlaws.specs.Layout.{least_places, most_places, most_blocks}
use Rattle.calls.specs.Table.{zero_unit}
use Rattle.calls.specs.Acts.{format_acts}
use Rattle.calllaws.specs.Holds.{Keeps}

-- a pair of devices of N + 1 units and B blocks, within the limits, with any contents; there is nothing to settle beyond the sizes
pub record AnyContents (N B : ℕ) (m : Pair) : Type 0 where
  pub least : least_places ≤ N
  pub most : N ≤ most_places
  pub some : 1 ≤ B
  pub few : B ≤ most_blocks
  pub units : m.nvm.size ≡ N + 1
  pub blocks : m.disk.size ≡ B
  pub words_end : (w : ℕ) → 32 * m.nvm.size ≤ w → is_unsettled (m.nvm.piece w) ≡ false
  pub sectors_end : (s : ℕ) → 8 * m.disk.size ≤ s → is_unsettled (m.disk.piece s) ≡ false

-- flushes of all lines, a fence and a sync settle everything at its present contents; only darkness stops them
abbrev pub SettlingSettlesBoth : Type 0
SettlingSettlesBoth =
    (N B : ℕ) (m : Pair) → AnyContents N B m
    → PairAccepts m (settling_both (N + 1))
    × ((n : Pair) → PerformedPair m (settling_both (N + 1)) n → PairRests (words_of m.nvm) (sectors_of m.disk) n)

-- a format that is performed whole leaves an empty ring and zero units; only darkness stops it
abbrev pub FormatsMakeAnEmptyStore : Type 0
FormatsMakeAnEmptyStore =
    (N B : ℕ) (m : Pair) → AnyContents N B m
    → PairAccepts m (format_acts N B) × ((n : Pair) → PerformedPair m (format_acts N B) n → Keeps N B n [] (λ r. zero_unit))
