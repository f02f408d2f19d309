use Rattle.std.proofs.Common.{arith}
use Rattle.ringlaws.specs.Spells.{units_of}
use Rattle.ringunits.proofs.Filling.{places_more}
use Rattle.ringunits.proofs.fill.fill_places.Goals as goal

pub loop-i-preserved : goal.loop-i-preserved
loop-i-preserved c =
    places_more c.args.places c.args.place c.loop-i.i c.place_after.result (units_of c.args.settings.now) c.place_words-words.result
    c.args.image.now c.loop-i.image c.fill.new.image (omega arith) (omega arith) c.place_after.ensures c.place_words-words.ensures c.fill.ensures c.loop-i.invariant
