-- All examples, one field for each layer.
use Rattle.ringlaws.specs.Examples.{RingExamples}
use Rattle.examples.specs.Records.{RecordExamples}
use Rattle.examples.specs.Calls.{CallExamples}

pub record Examples : Type 0 where
  pub records : RecordExamples
  pub ring : RingExamples
  pub calls : CallExamples
