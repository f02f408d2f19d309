use Rattle.calllaws.proofs.Mounts.{mounts_keep_the_table}
use Rattle.calllaws.proofs.mounts_keep_the_table.Goals as goal

pub returns : goal.returns
returns c = mounts_keep_the_table
