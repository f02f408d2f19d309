use Rattle.std.proofs.Common.{◌+◌, ◌*◌, get_or, ap, ◌∙◌, arith}
use Rattle.std.proofs.lemmas.List.Edits.{get_or-between}
use Rattle.ringlaws.proofs.Units.{unit_is}
use Rattle.ringunits.specs.Images.{contents_of}
use Rattle.checkpointing.proofs.read.unit_of.Goals as goal

pub returns : goal.returns
returns c =
    let block = c.args.block.now in
    let from = 32 * c.args.unit in
    let words = c.copy_from_slice.new.self in
    let long = c.copy_from_slice.ensures.len in
    unit_is (contents_of block) c.args.unit words long
    (λ j lt. ap (λ xs. get_or xs j 0) c.copy_from_slice.ensures.after ∙ get_or-between block from (from + 32) j 0 (omega arith))
