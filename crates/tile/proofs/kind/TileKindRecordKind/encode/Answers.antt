use Rattle.std.proofs.Common.{length, ap, ◌∙◌}
use Rattle.layout.proofs.Parts.{two_parts}
use Rattle.tile.proofs.kind.TileKindRecordKind.encode.Goals as goal

pub returns : goal.returns
returns c =
    two_parts 4 28 c.args.place.now _ _ (ap length c.copy_from_slice.ensures.after) c.told-place ∙ cc (c.copy_from_slice.ensures.after, c.copy_from_slice-2.ensures.after, c.level_words.ensures)
