use Rattle.ringlaws.proofs.Seek.{newest_holds_the_latest}
use Rattle.ringlaws.proofs.laws.newest_holds_the_latest.Goals as goal

pub returns : goal.returns
returns c = newest_holds_the_latest
