use Rattle.ringlaws.proofs.Back.{every_word_comes_back}
use Rattle.ringlaws.proofs.laws.every_word_comes_back.Goals as goal

pub returns : goal.returns
returns c = every_word_comes_back
