use Rattle.std.proofs.Common.{ℕ, List}
use Rattle.device.specs.Sectors.{SectorMark, disk_rules}
use Rattle.crash.specs.Keeping.{disk_keeps}
use Rattle.crash.proofs.Tame.{disk_is_tame}
use Rattle.crash.proofs.Steps.{sync_settles, write_shows, settling_is_done, nothing_else_moves, refusals_move_nothing, size_stays, dark_stays_dark, restart_settles}
use Rattle.crash.proofs.Follow.{untouched_stays, size_stays_in_runs, dark_runs_nothing}
use Rattle.crash.proofs.disk_is_narrow.Goals as goal

pub returns : goal.returns
returns c = record {
  syncs = sync_settles;
  writes = write_shows;
  settles = settling_is_done disk_rules;
  moves = nothing_else_moves disk_rules disk_keeps disk_is_tame;
  refuses = refusals_move_nothing disk_rules;
  sizes = size_stays disk_rules;
  darkness = dark_stays_dark disk_rules;
  untouched = untouched_stays disk_rules;
  runSizes = size_stays_in_runs disk_rules;
  darkRuns = dark_runs_nothing disk_rules;
  restarts = restart_settles SectorMark (List ℕ);
}
