use Rattle.device.specs.Sectors.{disk_rules}
use Rattle.crash.specs.Keeping.{disk_keeps}
use Rattle.crash.proofs.Tame.{disk_is_tame}
use Rattle.crash.proofs.Follow.{runs_have_begun, untouched_outlasts, contents_follow, marks_follow, phase_settles, only_darkness_stops}
use Rattle.crash.proofs.Blends.{cut_phase_blends, quiet_acts_show_nothing}
use Rattle.crash.proofs.Settles.{sync_settles_all}
use Rattle.crash.proofs.disk_outlasts_cuts.Goals as goal

pub returns : goal.returns
returns c = record {
  begun = runs_have_begun disk_rules;
  untouched = untouched_outlasts disk_rules;
  contents = contents_follow disk_rules disk_keeps disk_is_tame;
  marks = marks_follow disk_rules disk_keeps disk_is_tame;
  whole = phase_settles disk_rules disk_keeps disk_is_tame;
  cut = cut_phase_blends disk_rules disk_keeps disk_is_tame;
  quiet = quiet_acts_show_nothing disk_rules disk_keeps disk_is_tame;
  stops = only_darkness_stops disk_rules disk_keeps disk_is_tame;
  noisy = sync_settles_all;
}
