use Rattle.std.proofs.Common.{rules}
use Rattle.layout.proofs.FromFn.{from_fn_made}
use Rattle.mast.specs.Masts.{byte_at, bytes_in}
use Rattle.mast.proofs.kind.bytes_in.Goals as goal

pub returns : goal.returns
unfolding bytes_in
returns c = from_fn_made _ _ (byte_at c.args.words.now) _ 232 (λ j y q lt called. search rules) c.from_fn.ensures.items 0
