use Rattle.std.proofs.Common.{◌≡◌, ℕ, ◌+◌, ◌-◌, [], ◌∷◌, ◌++◌, length, take, get_or, sym, ap, ◌∙◌, arith, length-take-le}
use Rattle.std.proofs.lemmas.List.{take_all, take_more}
use Rattle.ringlaws.specs.Layout.{before}
use Rattle.ringlaws.specs.TxnInfo.{taken}
use Rattle.ringlaws.proofs.Places.{before_below}
use Rattle.checkpointing.proofs.Rowing.{added_none, added_on}
use Rattle.checkpointing.proofs.gather.add_rows.Goals as goal

pub loop-index-init : goal.loop-index-init
loop-index-init c = added_none c.args.rows.now (λ k. before c.args.places c.args.place (taken (length c.args.numbers.now) - k))

pub push-requires : goal.push-requires
push-requires c =
    let b = before_below c.args.places c.args.place (c.places_taken-taken.result - c.loop-index.index) c.requires.ring.0 in
    let e = c.place_before.ensures in
    let i = c.loop-index.invariant.long in
    let t : length (take c.loop-index.index c.args.numbers.now) ≡ c.loop-index.index = length-take-le c.loop-index.index c.args.numbers.now c.loop-index.auto.index-end in
    record { room = omega arith; place = omega arith }

pub loop-index-preserved : goal.loop-index-preserved
loop-index-preserved c =
    let numbers = c.args.numbers.now in
    let i = c.loop-index.index in
    let f : ℕ → ℕ = λ k. before c.args.places c.args.place (taken (length numbers) - k) in
    let long : length (take i numbers) ≡ i = length-take-le i numbers c.loop-index.auto.index-end in
    let at : c.place_before.result ≡ f (length (take i numbers)) =
    c.place_before.ensures ∙ ap (λ t. before c.args.places c.args.place (t - i)) c.places_taken-taken.ensures ∙ ap f (sym long) in
    let more : take (i + 1) numbers ≡ take i numbers ++ get_or numbers i 0 ∷ [] = take_more numbers i 0 c.loop-index-test.true in
    rw (more, c.push.ensures) (added_on c.args.rows.now f (take i numbers) c.loop-index.rows (get_or numbers i 0) c.place_before.result at c.loop-index.invariant)

pub returns : goal.returns
returns c =
    let all : take c.loop-index.index c.args.numbers.now ≡ c.args.numbers.now = take_all c.loop-index.index c.args.numbers.now c.loop-index-test.false in
    let h = rw all at c.loop-index.invariant in
    record { long = h.long; rows = h.found }
