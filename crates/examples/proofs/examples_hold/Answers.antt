use Rattle.std.proofs.Common.{refl}
use Rattle.ringlaws.specs.TxnInfo.{member}
use Rattle.ringlaws.proofs.Examples.{ring_examples}
use Rattle.examples.specs.Records.{RecordExamples}
use Rattle.examples.specs.Calls.{CallExamples}
use Rattle.examples.proofs.examples_hold.Goals as goal

records : RecordExamples
records = record {
  lowest_passes = refl;
  highest_passes = refl;
  below_lowest_is41 = refl;
  above_highest_is41 = refl;
  last_column_and_row_pass = refl;
  column_beyond_is40 = refl;
  row_beyond_is40 = refl;
  column_comes_first = refl;
  one_byte_passes = refl;
  longest_passes = refl;
  no_byte_is42 = refl;
  too_long_is42 = refl;
  length_comes_first = refl;
  control_byte_is43 = refl;
  delete_byte_is43 = refl;
  ridge_is_aname = refl;
  ridge_word = refl;
}

calls : CallExamples
unfolding member
calls = record {
  thirty_fit = refl;
  twenty_eight_fit = refl;
  twenty_nine_do_not = refl;
  fifteen_passes = refl;
  sixteen_is31 = refl;
}

pub returns : goal.returns
returns c = record { records = records; ring = ring_examples; calls = calls }
