use Rattle.ringunits.proofs.Filling.{unit_filled}
use Rattle.ringunits.proofs.fill.fill.Goals as goal

pub returns : goal.returns
returns c = rw c.copy_from_slice.ensures.after (unit_filled c.args.unit c.args.words.now c.args.image.now c.told-words c.requires.1)
