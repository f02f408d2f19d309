use Rattle.ringlaws.specs.Spells.{units_of}
use Rattle.ringunits.specs.Images.{FilledPlaces}
use Rattle.ringunits.proofs.fill.fill_places.Given as goal

abbrev pub invariant-loop-i : goal.invariant-loop-i
invariant-loop-i l = FilledPlaces l.places l.place l.i (units_of l.settings) l.initial.image l.image
