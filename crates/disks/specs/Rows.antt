-- Sectors in rows of words and marks. Assumes nothing.
use Rattle.std.specs.Prelude.{ℕ, Bool, false, cond, not, ◌&&◌, List, slice_index_or}
use Rattle.device.specs.declared.comeback.Comeback.{Comeback}
use Rattle.device.specs.Pieces.{settled, unsettled}
use Rattle.device.specs.Sectors.{Sector, waits, sector_of}
use Rattle.simulated.specs.Natures.{takes_new}

-- The sector s, by the rows of settled words, of present words and of marks. A sector without a mark is settled at its
-- present words, whatever the settled words say.
abbrev pub sector_at : List ℕ → List ℕ → List Bool → ℕ → Sector
sector_at olds news marks s = cond (slice_index_or marks s false) (unsettled waits (sector_of olds s) (sector_of news s)) (settled (sector_of news s))

-- a sector that waits and does not come back new
abbrev pub goes_back : List Bool → Comeback → ℕ → Bool
goes_back marks how s = slice_index_or marks s false && not (takes_new how s)
