use Rattle.std.proofs.Common.{drop}
use Rattle.nvm_words.specs.Meant.{unsettled_lines, Became}
use Rattle.nvms.proofs.Rooms.{first_settled}
use Rattle.nvms.proofs.room.settle_surplus.Given as goal

abbrev pub invariant-loop-i : goal.invariant-loop-i
invariant-loop-i l = Became l.initial.words.supply (first_settled l._i (unsettled_lines l.initial.words)) (drop l._i (unsettled_lines l.initial.words)) l.initial.words l.words
