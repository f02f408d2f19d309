use Rattle.std.proofs.Common.{ℕ, ◌+◌, ◌<◌, List, length, get_or, drop, refl, ap, ◌∙◌, arith}
use Rattle.simulated.specs.Listing.{without_first}
use Rattle.nvm_words.specs.Meant.{meant, unsettled_lines, line_settled}
use Rattle.nvm_words.proofs.Performing.{became_then, became_like}
use Rattle.nvms.proofs.Rooms.{first_settled, first_none, first_more, drop_first}
use Rattle.nvms.proofs.room.settle_surplus.Goals as goal

pub loop-i-init : goal.loop-i-init
loop-i-init c = record { size = refl; power = refl; words = λ w. first_none (unsettled_lines c.args.words.now) w ((meant c.args.words.now).piece w); lines = refl }

pub loop-i-preserved : goal.loop-i-preserved
loop-i-preserved c =
    let n = c.args.words.now in
    let ls = unsettled_lines n in
    let i = c.loop-i._i in
    let cur = c.loop-i.words in
    let inv = c.loop-i.invariant in
    let lt : i < length ls = omega (arith, ap length c.unsettled_lines.ensures.lines, c.saturating_sub-surplus.ensures, c.loop-i-test.true) in
    became_like n c.settle_oldest.new.self cur.supply n.supply _ (first_settled (i + 1) ls) _ (drop (i + 1) ls) inv.power
    (λ w d. ap (λ (xs : List ℕ). line_settled (get_or xs 0 0) w (first_settled i ls w d)) inv.lines ∙ first_more ls i lt w d)
    (ap without_first inv.lines ∙ drop_first ls i)
    (became_then n cur c.settle_oldest.new.self n.supply cur.supply (first_settled i ls) (line_settled (get_or (unsettled_lines cur) 0 0)) (drop i ls) (without_first (unsettled_lines cur)) inv c.settle_oldest.ensures)
