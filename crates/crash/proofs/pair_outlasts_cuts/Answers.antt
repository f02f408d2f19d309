use Rattle.crash.proofs.Pairs.{runs_part, cuts_part, only_darkness_stops_both}
use Rattle.crash.proofs.PairPhases.{untouched_outlasts_both, nvm_phase_settles, nvm_phase_blends, disk_phase_settles, disk_phase_blends, sealing_both_is_atomic, any_devices_settle}
use Rattle.crash.proofs.pair_outlasts_cuts.Goals as goal

pub returns : goal.returns
returns c = record {
  runs = runs_part;
  cuts = cuts_part;
  stops = only_darkness_stops_both;
  untouched = untouched_outlasts_both;
  words = nvm_phase_settles;
  wordsCut = nvm_phase_blends;
  sectors = disk_phase_settles;
  sectorsCut = disk_phase_blends;
  seals = sealing_both_is_atomic;
  noisy = any_devices_settle;
}
