use Rattle.mast.specs.Laws.{masts_read_exactly}
use Rattle.mast.proofs.kind.masts_read_exactly.Goals as goal

pub returns : goal.returns
returns c = masts_read_exactly
