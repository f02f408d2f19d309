use Rattle.std.proofs.Common.{length, ◌∙◌, arith, length-set}
use Rattle.ringunits.proofs.Filling.{tail_moved, can_long, can_tail}
use Rattle.ringunits.proofs.fill.append.Goals as goal

pub returns : goal.returns
returns c =
    let (can, places, head, tail) = c.in_ok-ring.ensures in
    let n = length c.args.settings.now in
    let old = c.args.image.now in
    let taken = c.places_taken-taken.ensures in
    let used = rw (places, head, tail) at c.used.ensures in
    let filled = rw tail at c.fill_places.ensures in (
      can,
      length-set c.fill_places.new.image 16 c.place_after.result ∙ c.fill_places.ensures.long,
      omega arith,
      tail_moved c.args.places c.places_taken-taken.result c.place_after.result c.args.settings.now old c.fill_places.new.image
          taken (rw tail at c.place_after.ensures) (can_tail c.args.places n old can) (can_long c.args.places n old can) filled,
    )
