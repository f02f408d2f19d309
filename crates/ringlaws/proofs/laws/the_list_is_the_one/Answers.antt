use Rattle.ringlaws.proofs.Back.{the_list_is_the_one}
use Rattle.ringlaws.proofs.laws.the_list_is_the_one.Goals as goal

pub returns : goal.returns
returns c = the_list_is_the_one
