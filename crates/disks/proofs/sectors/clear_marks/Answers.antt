use Rattle.std.proofs.Common.{◌≡◌, ℕ, ◌+◌, ◌*◌, ◌/◌, false, cond, eqb, get_or, take, refl, ap, ◌∙◌, arith}
use Rattle.std.proofs.lemmas.Bool.Decides.{nat_tests}
use Rattle.simulated.specs.Lists.{inside, member}
use Rattle.disks.proofs.Regions.{grown, member_more}
use Rattle.disks.proofs.sectors.clear_marks.Goals as goal

in_block : (b s : ℕ) → inside (8 * b) (8 * b + 8) s ≡ eqb (s / 8) b
in_block b s = grind (arith, nat_tests)

pub loop-block-init : goal.loop-block-init
unfolding member
loop-block-init c s = refl

pub loop-block-preserved : goal.loop-block-preserved
loop-block-preserved c s =
    let queue = c.args.queue.now in
    let i = c.loop-block.block-index in
    let b = get_or queue i 0 in
    let base = get_or c.args.waiting.now s false in
    c.set_marks.ensures s ∙ ap (λ t. cond t false (get_or c.loop-block.waiting s false)) (in_block b s)
    ∙ grown (member (s / 8) (take i queue)) (eqb (s / 8) b) false base (get_or c.loop-block.waiting s false) (c.loop-block.invariant s) ∙ ap (λ t. cond t false base) (member_more (s / 8) queue i (omega arith))
