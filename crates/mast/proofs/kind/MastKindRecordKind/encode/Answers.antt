use Rattle.std.proofs.Common.{length, ap, ◌∙◌}
use Rattle.layout.proofs.Parts.{two_parts}
use Rattle.mast.specs.Laws.{unit_is}
use Rattle.mast.proofs.kind.MastKindRecordKind.encode.Goals as goal

pub returns : goal.returns
returns c =
    two_parts 3 29 c.args.place.now _ _ (ap length c.copy_from_slice.ensures.after) c.told-place ∙ cc (c.copy_from_slice.ensures.after, c.copy_from_slice-2.ensures.after, c.name_words.ensures, unit_is c.args.value.now)
