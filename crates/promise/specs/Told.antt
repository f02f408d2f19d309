-- What is promised of a list of requests. Assumes nothing.
use Rattle.std.specs.Prelude.{◌≡◌, ℕ, ◌⊎◌, List, [], ◌∷◌, ◌++◌}
use Rattle.refusal.specs.declared.reason.Refusal.TheVariants.{Dark}
use Rattle.calls.specs.declared.state.State.TheVariants.{Unmounted}
use Rattle.calls.specs.declared.call.Call.{Call}
use Rattle.calls.specs.declared.call.Call.TheVariants.{Mount, Read}
use Rattle.calls.specs.declared.answer.Answer.{Answer}
use Rattle.calls.specs.declared.answer.Answer.TheVariants.{Refused, Done, Blocks}
use Rattle.calls.specs.Plans.{Machine, Kind, places_of, blocks_of}
use Rattle.calls.specs.Steps.{Step, MachineRestarted}
use Rattle.book.specs.Book.{Book, book_read}
use Rattle.book.specs.Runs.{Event, Run}
use Rattle.book.specs.Commits.{tally}
use Rattle.book.specs.Promise.{Right, Promised}
use Rattle.promise.specs.declared.request.Return.{Return}
use Rattle.promise.specs.declared.request.Request.{Request}
use Rattle.promise.specs.declared.request.Request.TheVariants.{Call as aCall, Restart}
use Rattle.promise.specs.History.{History, unknown, since, heard, returned, Known}

-- A call was answered as promised. Said outright of the two calls that a client looks at most: a read answers exactly as the book
-- does, and a mount of an unmounted store is accepted or answers 5.
pub record AsPromised {R : Type 0} (kind : Kind R) (es : List (Event R)) (b : Book) (m : Machine) (call : Call R) (a : Answer R) : Type 0 where
  pub promised : Promised kind es m b
  pub right : Right kind (places_of m) (blocks_of m) b (tally kind es).lying call a
  pub read : (r : ℕ) → call ≡ Read r → a ≡ book_read kind (blocks_of m) b r
  pub mount : call ≡ Mount → m.state ≡ Unmounted → ((k : ℕ) × (a ≡ Blocks k)) ⊎ (a ≡ Refused Dark)

-- the answer is right by what is known; where nothing is known, nothing is asked of it
abbrev pub RightBy : {R : Type 0} → Kind R → History R → Machine → Call R → Answer R → Type 0
RightBy kind unknown m call a = Unit {0}
RightBy kind (since es b) m call a = AsPromised kind es b m call a

-- Where something is known, the promise holds now and after every list of calls and restarts that may follow, up to the next
-- format, which is itself answered right.
abbrev pub Upheld : {R : Type 0} → Kind R → History R → Machine → Type 0
Upheld kind unknown m = Unit {0}
Upheld {R} kind (since es b) m = (more : List (Event R)) (n : Machine) (c : Book) → Run kind m b more n c → Promised kind (es ++ more) n c

-- The requests of a list, one after another, with their answers: each call is a step of the store and was answered right by what
-- was known, and each restart, which answers done, brought the devices back in some allowed way. The newest request is last.
pub data Told {R : Type 0} (kind : Kind R) (h₀ : History R) (m₀ : Machine) : List (Request R) → List (Answer R) → History R → Machine → Type 0 where
  nothing : Told kind h₀ m₀ [] [] h₀ m₀
  asked : {requests : List (Request R)} {answers : List (Answer R)} {h : History R} {m n : Machine} {call : Call R} {a : Answer R}
      → Told kind h₀ m₀ requests answers h m → RightBy kind h m call a → Step kind m call a n
      → Told kind h₀ m₀ (requests ++ aCall call ∷ []) (answers ++ a ∷ []) (heard kind h call a) n
  restarted : {requests : List (Request R)} {answers : List (Answer R)} {h : History R} {m n : Machine}
      → Told kind h₀ m₀ requests answers h m → (how : Return) → MachineRestarted m n
      → Told kind h₀ m₀ (requests ++ Restart how ∷ []) (answers ++ Done ∷ []) (returned h n) n

-- what came of a list of requests: what is known then, that all of it was answered right, and the promise for what may follow
pub record Outcome {R : Type 0} (kind : Kind R) (h : History R) (m : Machine) (requests : List (Request R)) (answers : List (Answer R)) (n : Machine) : Type 0 where
  pub history : History R
  pub told : Told kind h m requests answers history n
  pub known : Known kind history n
  pub upheld : Upheld kind history n

-- The whole promise of a list of requests with these answers, which made the store m to n: by whatever history is true of m.
abbrev pub Performs : {R : Type 0} → Kind R → Machine → List (Request R) → List (Answer R) → Machine → Type 0
Performs {R} kind m requests answers n = (h : History R) → Known kind h m → Outcome kind h m requests answers n
