use Rattle.acting.proofs.Running.{ran_or_cut}
use Rattle.acting.proofs.laws.accepted_acts_end_or_are_cut.Goals as goal

pub returns : goal.returns
returns c acts m n r = ran_or_cut acts m n r
