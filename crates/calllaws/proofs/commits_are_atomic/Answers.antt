use Rattle.calllaws.proofs.Commits.{commits_are_atomic}
use Rattle.calllaws.proofs.commits_are_atomic.Goals as goal

pub returns : goal.returns
returns c = commits_are_atomic
