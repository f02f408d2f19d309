use Rattle.crash.proofs.Tame.{nvm_is_tame, disk_is_tame}
use Rattle.crash.proofs.devices_are_tame.Goals as goal

pub returns : goal.returns
returns c = record { nvm = nvm_is_tame; disk = disk_is_tame }
