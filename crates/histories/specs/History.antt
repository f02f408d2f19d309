-- A history that happens. The promise speaks of every run from an accepted format on; here is one, with two endings: nothing that
-- it assumes is empty, and a cut commit may be kept or not. Assumes nothing.
use Rattle.std.specs.Prelude.{◌≡◌, true, false, List, [], ◌∷◌, ◌++◌, ◌≢◌}
use Rattle.refusal.specs.declared.reason.Refusal.TheVariants.{Dark}
use Rattle.calls.specs.declared.call.Call.TheVariants.{Format, Mount, Begin, Set, Read, Commit}
use Rattle.calls.specs.declared.answer.Answer.TheVariants.{Refused, Done, Used, Blocks, Found}
use Rattle.calls.specs.Plans.{Machine, Kind}
use Rattle.calls.specs.Steps.{Step, MachineRestarted}
use Rattle.order.specs.Order.{EndsThere}
use Rattle.book.specs.Book.{Book, blank}
use Rattle.book.specs.Runs.{Event, called, restart, Run, is_kept}

-- Record 5 becomes x, and is to become y when power fails in the commit.
abbrev pub up_to_the_cut : {R : Type 0} → R → R → List (Event R)
up_to_the_cut x y =
    called Mount (Blocks 0) ∷ called Begin Done ∷ called (Set 5 x) Done ∷ called Commit (Used 2)
    ∷ called Begin Done ∷ called (Set 5 y) Done ∷ called Commit (Refused Dark) ∷ []

-- Power returns, and record 5 is z.
abbrev pub read_again : {R : Type 0} → R → List (Event R)
read_again z = restart ∷ called Mount (Blocks 1) ∷ called (Read 5) (Found z) ∷ []

-- One ending: what the dark store comes back as, and the run that then reads z.
pub record Ending {R : Type 0} (kind : Kind R) (formatted dark : Machine) (es : List (Event R)) (z : R) : Type 0 where
  pub back : Machine
  pub returns : MachineRestarted dark back
  pub last : Machine
  pub book : Book
  pub run : Run kind formatted blank (es ++ read_again z) last book

-- The history of two records x and y. Of its devices, which hold noise at first, it is known that they have nothing to settle
-- beyond their sizes; their format is accepted.
pub record History {R : Type 0} (kind : Kind R) (x y : R) : Type 0 where
  pub noisy : Machine
  pub ends : EndsThere noisy
  pub formatted : Machine
  pub format : Step kind noisy Format Done formatted
  -- a commit that is accepted, and one that is cut
  pub dark : Machine
  pub book : Book
  pub run : Run kind formatted blank (up_to_the_cut x y) dark book
  pub cut : book.cut ≡ true
  -- the two endings of the one dark store; if the records differ, the book has left the cut commit out in one and kept it in
  -- the other
  pub without : Ending kind formatted dark (up_to_the_cut x y) x
  pub left : (x ≢ y) → is_kept book without.back ≡ false
  pub with_it : Ending kind formatted dark (up_to_the_cut x y) y
  pub kept : (x ≢ y) → is_kept book with_it.back ≡ true

-- any two records of a kind have a history
abbrev pub AHistoryHappens : {R : Type 0} → Kind R → Type 0
AHistoryHappens {R} kind = (x y : R) → History kind x y
