use Rattle.ringlaws.proofs.Back.{sound_exactly_if_spelled}
use Rattle.ringlaws.proofs.laws.sound_exactly_if_spelled.Goals as goal

pub returns : goal.returns
returns c = sound_exactly_if_spelled
