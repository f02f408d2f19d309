-- The history that happens, as a list of requests to a new store: the promise of such lists is not empty. Assumes nothing.
use Rattle.std.specs.Prelude.{List, ◌∷◌, ◌++◌, map}
use Rattle.calls.specs.declared.call.Call.TheVariants.{Format}
use Rattle.calls.specs.declared.answer.Answer.TheVariants.{Done}
use Rattle.calls.specs.Plans.{Machine, Kind}
use Rattle.book.specs.Book.{Book}
use Rattle.book.specs.Runs.{Event}
use Rattle.promise.specs.declared.request.Return.{Return}
use Rattle.promise.specs.declared.request.Request.TheVariants.{Call as aCall}
use Rattle.promise.specs.History.{unknown, since, Known}
use Rattle.promise.specs.Told.{Told}
use Rattle.promise.specs.Laws.{request_of, answer_of}
use Rattle.histories.specs.History.{up_to_the_cut, read_again}

-- All that is asked after the format: record 5 becomes x, is to become y when power fails in the commit, and is read as z after a
-- restart.
abbrev pub all_asked : {R : Type 0} → R → R → R → List (Event R)
all_asked x y z = up_to_the_cut x y ++ read_again z

-- A new store, of which nothing is known, is asked for a format and all this, where the devices come back as `how` says; then all
-- this is known of it.
pub record Asked {R : Type 0} (kind : Kind R) (how : Return) (x y z : R) : Type 0 where
  pub new : Machine
  pub nothing : Known kind unknown new
  pub last : Machine
  pub book : Book
  pub told : Told kind unknown new (aCall Format ∷ map (request_of how) (all_asked x y z)) (Done ∷ map answer_of (all_asked x y z)) (since (all_asked x y z) book) last
  pub known : Known kind (since (all_asked x y z) book) last

-- the same list of requests may end with a read of x, and with a read of y
abbrev pub AListHappens : {R : Type 0} → Kind R → Type 0
AListHappens {R} kind = (how : Return) (x y : R) → Asked kind how x y x × Asked kind how x y y
