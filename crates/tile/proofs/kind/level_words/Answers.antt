use Rattle.std.proofs.Common.{rules}
use Rattle.layout.specs.Fields.{word_of}
use Rattle.layout.proofs.FromFn.{from_fn_made}
use Rattle.tile.specs.Tiles.{level_bits, level_words}
use Rattle.tile.proofs.kind.level_words.Goals as goal

pub returns : goal.returns
unfolding level_words
returns c = from_fn_made _ _ (word_of 16 4 (level_bits c.args.levels.now)) _ 28 (λ k y q lt called. search rules) c.from_fn.ensures.items 0
