use Rattle.ringlaws.proofs.Seek.{newest_is_a_place}
use Rattle.ringlaws.proofs.laws.newest_is_a_place.Goals as goal

pub returns : goal.returns
returns c = newest_is_a_place
