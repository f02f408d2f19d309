use Rattle.device.specs.Words.{nvm_rules}
use Rattle.crash.specs.Keeping.{nvm_keeps}
use Rattle.crash.proofs.Tame.{nvm_is_tame}
use Rattle.crash.proofs.Follow.{runs_have_begun, untouched_outlasts, contents_follow, marks_follow, phase_settles, only_darkness_stops}
use Rattle.crash.proofs.Blends.{cut_phase_blends, quiet_acts_show_nothing}
use Rattle.crash.proofs.Atomic.{sealing_is_atomic}
use Rattle.crash.proofs.Settles.{flushes_settle_all}
use Rattle.crash.proofs.memory_outlasts_cuts.Goals as goal

pub returns : goal.returns
returns c = record {
  begun = runs_have_begun nvm_rules;
  untouched = untouched_outlasts nvm_rules;
  contents = contents_follow nvm_rules nvm_keeps nvm_is_tame;
  marks = marks_follow nvm_rules nvm_keeps nvm_is_tame;
  whole = phase_settles nvm_rules nvm_keeps nvm_is_tame;
  cut = cut_phase_blends nvm_rules nvm_keeps nvm_is_tame;
  quiet = quiet_acts_show_nothing nvm_rules nvm_keeps nvm_is_tame;
  stops = only_darkness_stops nvm_rules nvm_keeps nvm_is_tame;
  seals = sealing_is_atomic;
  noisy = flushes_settle_all;
}
