use Rattle.ringlaws.proofs.Bad.{a_bad_place_is_the_first}
use Rattle.ringlaws.proofs.laws.a_bad_place_is_the_first.Goals as goal

pub returns : goal.returns
returns c = a_bad_place_is_the_first
