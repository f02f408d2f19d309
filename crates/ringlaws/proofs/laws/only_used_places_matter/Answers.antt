use Rattle.ringlaws.proofs.Append.{only_used_places_matter}
use Rattle.ringlaws.proofs.laws.only_used_places_matter.Goals as goal

pub returns : goal.returns
returns c = only_used_places_matter
