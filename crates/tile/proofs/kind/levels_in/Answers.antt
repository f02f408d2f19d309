use Rattle.std.proofs.Common.{pos, rules}
use Rattle.layout.proofs.FromFn.{from_fn_made}
use Rattle.tile.specs.Tiles.{level_at, levels_in}
use Rattle.tile.proofs.kind.levels_in.Goals as goal

pub returns : goal.returns
unfolding levels_in
returns c = from_fn_made _ _ (level_at c.args.words.now) _ 112 (λ i y q lt called. search rules) c.from_fn.ensures.items (pos 0)
