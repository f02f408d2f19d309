use Rattle.std.proofs.Common.{arith}
use Rattle.simulated.proofs.Flags.{listed_below}
use Rattle.disks.proofs.contents.Contents.settle.Goals as goal

pub clear_marks-requires : goal.clear_marks-requires
clear_marks-requires c k l =
    let d = c.args.self.now in
    omega (arith, listed_below d.pending c.as_slice.result.now c.as_slice.ensures k l, c.as_mut_slice.ensures.len, d.eights, d.lists)
