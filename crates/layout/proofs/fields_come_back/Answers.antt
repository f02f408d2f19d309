use Rattle.layout.proofs.Fields.{fields_come_back, words_come_back}
use Rattle.layout.proofs.fields_come_back.Goals as goal

pub returns : goal.returns
returns c = (fields_come_back, words_come_back)
