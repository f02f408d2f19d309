use Rattle.std.proofs.Common.{◌-◌, length, take}
use Rattle.ringlaws.specs.Layout.{before}
use Rattle.ringlaws.specs.TxnInfo.{taken}
use Rattle.checkpointing.proofs.Rowing.{Added}
use Rattle.checkpointing.proofs.gather.add_rows.Given as goal

abbrev pub invariant-loop-index : goal.invariant-loop-index
invariant-loop-index l = Added l.initial.rows (λ k. before l.places l.place (taken (length l.numbers) - k)) (take l.index l.numbers) l.rows
