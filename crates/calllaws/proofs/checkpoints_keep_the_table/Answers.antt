use Rattle.calllaws.proofs.Checkpoints.{checkpoints_keep_the_table}
use Rattle.calllaws.proofs.checkpoints_keep_the_table.Goals as goal

pub returns : goal.returns
returns c = checkpoints_keep_the_table
