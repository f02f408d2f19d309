-- How a simulated device comes back after a restart that names its contents.
use Rattle.device.specs.declared.comeback.Comeback.{Comeback}
use Rattle.device.specs.declared.comeback.Comeback.TheVariants as comeback
use Rattle.commands.specs.declared.command.Contents.{Contents}
use Rattle.commands.specs.declared.command.Contents.TheVariants.{Old, New}

-- old contents are the settled ones, new contents the present ones, of every word and sector
abbrev pub comeback_of : Contents → Comeback
comeback_of Old = comeback.Old
comeback_of New = comeback.New
