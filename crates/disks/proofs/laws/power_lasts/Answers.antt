use Rattle.device.specs.Sectors.{disk_rules}
use Rattle.simulated.proofs.Lasting.{lasts}
use Rattle.disks.specs.State.{patient, prompt}
use Rattle.disks.proofs.laws.power_lasts.Goals as goal

pub returns : goal.returns
returns c = record { patient = lasts disk_rules patient; prompt = lasts disk_rules prompt }
