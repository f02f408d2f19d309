use Rattle.std.proofs.Common.{◌*◌, true, false, refl, ◌∙◌, arith}
use Rattle.disks.proofs.Parted.{any_of_slice}
use Rattle.disks.proofs.sectors.any_waits.Goals as goal

pub returns : goal.returns
returns c = c.contains.ensures.value ∙ any_of_slice _ (elim [ true ↦ refl | false ↦ refl ]) c.args.waiting.now (8 * c.args.block) 8 _ (omega arith) c.requires
