use Rattle.ringlaws.proofs.Examples.{ring_examples}
use Rattle.ringlaws.proofs.laws.ring_examples.Goals as goal

pub returns : goal.returns
returns c = ring_examples
