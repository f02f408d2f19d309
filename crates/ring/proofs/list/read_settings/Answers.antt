use Rattle.std.proofs.Common.{rules, vec_items, ◌∙◌}
use Rattle.ring.proofs.Listing.{settings_none, read_more}
use Rattle.ring.proofs.list.read_settings.Goals as goal

pub loop-i-init : goal.loop-i-init
loop-i-init g c = λ d a. c.new-settings.ensures.items ∙ settings_none c.args.places d c.args.first

pub loop-i-preserved : goal.loop-i-preserved
loop-i-preserved g c = λ d a.
    read_more c.args.places d c.args.first c.args.numbers.now c.loop-i.i c.loop-i-test.true
    (vec_items c.loop-i.settings) (vec_items c.push.new.self) c.in_ok-unit.unit c.place_after-place.result (c.loop-i.invariant d a)
    (search rules) c.place_after-place.ensures (c.in_ok-unit.ensures d a)
