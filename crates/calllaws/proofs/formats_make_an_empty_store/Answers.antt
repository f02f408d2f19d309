use Rattle.calllaws.proofs.Formats.{formats_make_an_empty_store}
use Rattle.calllaws.proofs.formats_make_an_empty_store.Goals as goal

pub returns : goal.returns
returns c = formats_make_an_empty_store
