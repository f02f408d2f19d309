use Rattle.std.proofs.Common.{◌≡◌, ℕ, ◌<◌, length, get_or}
use Rattle.ringlaws.specs.TxnInfo.{numbers_of}
use Rattle.ringunits.proofs.fill.info_of.Given as goal

abbrev pub invariant-loop-i : goal.invariant-loop-i
invariant-loop-i l = (length l.numbers ≡ 30) × ((k : ℕ) → k < l.i → get_or l.numbers k 0 ≡ get_or (numbers_of l.settings) k 0)
