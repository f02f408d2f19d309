use Rattle.ringlaws.proofs.Seek.{laid_again_is_the_same}
use Rattle.ringlaws.proofs.laws.laid_again_is_the_same.Goals as goal

pub returns : goal.returns
returns c = laid_again_is_the_same
