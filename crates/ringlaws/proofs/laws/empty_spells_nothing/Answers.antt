use Rattle.ringlaws.proofs.Append.{empty_spells_nothing}
use Rattle.ringlaws.proofs.laws.empty_spells_nothing.Goals as goal

pub returns : goal.returns
returns c = empty_spells_nothing
