use Rattle.std.proofs.Common.{◌≡◌, drop}
use Rattle.ringlaws.specs.TxnInfo.{good_numbers}
use Rattle.ringunits.proofs.info.good_numbers.Given as goal

abbrev pub invariant-loop-i : goal.invariant-loop-i
invariant-loop-i l = good_numbers l.blocks (drop l.i l.numbers) ≡ good_numbers l.blocks l.numbers
