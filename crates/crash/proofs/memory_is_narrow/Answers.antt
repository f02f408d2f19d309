use Rattle.std.proofs.Common.{ℕ}
use Rattle.device.specs.Words.{WordMark, nvm_rules}
use Rattle.crash.specs.Keeping.{nvm_keeps}
use Rattle.crash.proofs.Tame.{nvm_is_tame}
use Rattle.crash.proofs.Steps.{fence_settles, store_shows, settling_is_done, nothing_else_moves, refusals_move_nothing, size_stays, dark_stays_dark, restart_settles}
use Rattle.crash.proofs.Follow.{untouched_stays, size_stays_in_runs, dark_runs_nothing}
use Rattle.crash.proofs.memory_is_narrow.Goals as goal

pub returns : goal.returns
returns c = record {
  fences = fence_settles;
  stores = store_shows;
  settles = settling_is_done nvm_rules;
  moves = nothing_else_moves nvm_rules nvm_keeps nvm_is_tame;
  refuses = refusals_move_nothing nvm_rules;
  sizes = size_stays nvm_rules;
  darkness = dark_stays_dark nvm_rules;
  untouched = untouched_stays nvm_rules;
  runSizes = size_stays_in_runs nvm_rules;
  darkRuns = dark_runs_nothing nvm_rules;
  restarts = restart_settles WordMark ℕ;
}
