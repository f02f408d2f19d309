use Rattle.std.proofs.Common.{length, drop, replicate, ◌++◌, ap}
use Rattle.ringunits.proofs.Making.{info_made}
use Rattle.ringunits.proofs.fill.info_words.Goals as goal

pub returns : goal.returns
returns c = info_made c.args.numbers.now c.requires _ (ap (λ xs. xs ++ drop (length c.args.numbers.now) (replicate 32 0)) c.copy_from_slice.ensures.after)
