use Rattle.std.proofs.Common.{rules}
use Rattle.layout.specs.Fields.{word_of}
use Rattle.layout.proofs.FromFn.{from_fn_made}
use Rattle.mast.specs.Masts.{byte_of, name_words}
use Rattle.mast.proofs.kind.name_words.Goals as goal

pub returns : goal.returns
unfolding name_words
returns c = from_fn_made _ _ (word_of 8 8 (byte_of c.args.bytes.now)) _ 29 (λ k y q lt called. search rules) c.from_fn.ensures.items 0
