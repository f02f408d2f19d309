use Rattle.ringlaws.proofs.Append.{appended_spells_one_more}
use Rattle.ringlaws.proofs.laws.appended_spells_one_more.Goals as goal

pub returns : goal.returns
returns c = appended_spells_one_more
