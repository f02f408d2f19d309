use Rattle.std.proofs.Common.{◌≡◌, ◌+◌, ◌*◌, ◌<◌, [], length, get_or, arith}
use Rattle.crash.specs.Rows.{storing}
use Rattle.crash.proofs.Runs.{loop_none, loop_more, loop_stops}
use Rattle.ringlaws.specs.Layout.{after}
use Rattle.ringlaws.specs.Spells.{units_of}
use Rattle.ringlaws.proofs.Units.{units_of_long}
use Rattle.acting.proofs.Running.{broken}
use Rattle.acting.proofs.Laying.{performed_as, halted_as}
use Rattle.acting.proofs.commit.Stretch.store.Goals as goal

pub loop-k-init : goal.loop-k-init
loop-k-init g c = loop_none _ _

pub loop-k-preserved : goal.loop-k-preserved
loop-k-preserved g c =
    let e : storing (32 * (c.place.result + 1)) c.place_words-words.result ≡ storing (32 * (after c.args.self.now.places c.args.self.now.tail c.loop-k.k + 1)) (get_or (units_of c.args.self.now.settings.now) c.loop-k.k []) = cc in
    loop_more _ c.loop-k.k c.loop-k.invariant (performed_as e c.in_ok-store_place.ensures)

pub returns-in_err-store_place : goal.returns-in_err-store_place
returns-in_err-store_place g c =
    let e : storing (32 * (c.place.result + 1)) c.place_words-words.result ≡ storing (32 * (after c.args.self.now.places c.args.self.now.tail c.loop-k.k + 1)) (get_or (units_of c.args.self.now.settings.now) c.loop-k.k []) = cc in
    let long = units_of_long c.args.self.now.settings.now in
    let turn : c.loop-k.k < length (units_of c.args.self.now.settings.now) = omega (arith, long) in
    broken _ c.from_residual.ensures.1 (loop_stops _ c.loop-k.k _ turn c.loop-k.invariant (halted_as e c.in_err-store_place.ensures))

pub returns : goal.returns
returns g c =
    let long = units_of_long c.args.self.now.settings.now in
    let e : length (units_of c.args.self.now.settings.now) ≡ c.loop-k.k = omega (arith, long) in
    rw e c.loop-k.invariant
