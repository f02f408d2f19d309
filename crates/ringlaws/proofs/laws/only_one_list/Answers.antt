use Rattle.ringlaws.proofs.Back.{only_one_list}
use Rattle.ringlaws.proofs.laws.only_one_list.Goals as goal

pub returns : goal.returns
returns c = only_one_list
