use Rattle.std.proofs.Common.{length}
use Rattle.tour.proofs.answer_lines.Given as goal

-- what is left of the text gets shorter
abbrev pub decreases-loop-split : goal.decreases-loop-split
decreases-loop-split l = length l.rest
