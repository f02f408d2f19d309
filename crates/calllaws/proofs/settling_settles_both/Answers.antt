use Rattle.calllaws.proofs.Settling.{settling_settles_both}
use Rattle.calllaws.proofs.settling_settles_both.Goals as goal

pub returns : goal.returns
returns c = settling_settles_both
