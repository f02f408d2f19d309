use Rattle.ringlaws.proofs.Seek.{laid_is_the_latest}
use Rattle.ringlaws.proofs.laws.laid_is_the_latest.Goals as goal

pub returns : goal.returns
returns c = laid_is_the_latest
