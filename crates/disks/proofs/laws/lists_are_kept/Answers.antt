use Rattle.std.proofs.Common.{◌+◌, ◌*◌, false, take, arith}
use Rattle.std.proofs.lemmas.List.{get_or-take}
use Rattle.disks.specs.State.{blocks_in}
use Rattle.disks.specs.Parts.{same_sector, same_parts}
use Rattle.disks.proofs.laws.lists_are_kept.Goals as goal

pub returns : goal.returns
returns c = λ olds news marks acts s l.
    let n = blocks_in olds news marks in
    same_parts olds (take (512 * n) olds) news (take (512 * n) news) marks (take (8 * n) marks) s
    (same_sector (take (512 * n) olds) olds s s (λ i k. get_or-take (512 * n) olds (64 * s + i) 0 (omega arith)))
    (same_sector (take (512 * n) news) news s s (λ i k. get_or-take (512 * n) news (64 * s + i) 0 (omega arith)))
    (get_or-take (8 * n) marks s false l)
