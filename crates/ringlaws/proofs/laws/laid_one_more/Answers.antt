use Rattle.ringlaws.proofs.Seek.{laid_one_more}
use Rattle.ringlaws.proofs.laws.laid_one_more.Goals as goal

pub returns : goal.returns
returns c = laid_one_more
