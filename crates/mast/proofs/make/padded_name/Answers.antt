use Rattle.std.proofs.Common.{ℕ, length}
use Rattle.std.proofs.lemmas.List.{drop-replicate}
use Rattle.mast.proofs.make.padded_name.Goals as goal

pub returns : goal.returns
returns c = cc (drop-replicate {X = ℕ} (length c.args.name.now) 232 0)
