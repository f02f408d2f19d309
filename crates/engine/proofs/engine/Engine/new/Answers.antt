use Rattle.std.proofs.Common.{refl}
use Rattle.engine.proofs.Admitted.{fresh}
use Rattle.engine.proofs.engine.Engine.new.Goals as goal

pub returns-in-Ok-clause-order : goal.returns-in-Ok-clause-order
returns-in-Ok-clause-order g c = fresh _ refl c.in-Ok.ensures
