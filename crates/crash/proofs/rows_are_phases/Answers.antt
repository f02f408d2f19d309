use Rattle.crash.proofs.Phases.{stores_are_a_phase, writes_are_a_phase, sealing_is_a_phase}
use Rattle.crash.proofs.Rows.{unstored_spared, unwritten_spared}
use Rattle.crash.proofs.rows_are_phases.Goals as goal

pub returns : goal.returns
returns c = record {
  stores = stores_are_a_phase;
  writes = writes_are_a_phase;
  seals = sealing_is_a_phase;
  unstored = unstored_spared;
  unwritten = unwritten_spared;
}
