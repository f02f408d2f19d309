use Rattle.tile.specs.Laws.{tiles_read_exactly}
use Rattle.tile.proofs.kind.tiles_read_exactly.Goals as goal

pub returns : goal.returns
returns c = tiles_read_exactly
