-- What holds of what is known, and of lists of requests. Assumes nothing.
use Rattle.std.specs.Prelude.{◌≡◌, List, [], ◌∷◌, ◌++◌, map}
use Rattle.calls.specs.declared.state.State.TheVariants.{Unmounted}
use Rattle.calls.specs.declared.call.Call.{Call}
use Rattle.calls.specs.declared.call.Call.TheVariants.{Format}
use Rattle.calls.specs.declared.answer.Answer.{Answer}
use Rattle.calls.specs.declared.answer.Answer.TheVariants.{Done}
use Rattle.calls.specs.Plans.{Machine, Kind}
use Rattle.calls.specs.Steps.{Step, MachineRestarted}
use Rattle.order.specs.Order.{InOrder, EndsThere}
use Rattle.book.specs.Book.{Book}
use Rattle.book.specs.Runs.{Event, called, restart}
use Rattle.promise.specs.declared.request.Return.{Return}
use Rattle.promise.specs.declared.request.Request.{Request}
use Rattle.promise.specs.declared.request.Request.TheVariants.{Call as aCall, Restart}
use Rattle.promise.specs.History.{History, unknown, since, heard, returned, Came, Known}
use Rattle.promise.specs.Told.{RightBy, Upheld, Told, Performs}

-- Nothing is known of a new store, and that is true of it, whatever its devices hold.
abbrev pub NewStoresAreKnown : {R : Type 0} → Kind R → Type 0
NewStoresAreKnown kind = (m : Machine) → m.state ≡ Unmounted → m.list ≡ [] → Known kind unknown m

-- Whatever came of an accepted format, with any list of calls and restarts after it, is known.
abbrev pub RunsAreKnown : {R : Type 0} → Kind R → Type 0
RunsAreKnown {R} kind = (es : List (Event R)) (b : Book) (m : Machine) → Came kind es b m → Known kind (since es b) m

-- Where a history is true of a store, the promise is upheld.
abbrev pub KnownStoresKeepThePromise : {R : Type 0} → Kind R → Type 0
KnownStoresKeepThePromise {R} kind = (h : History R) (m : Machine) → Known kind h m → Upheld kind h m

-- Every call is answered right by what is known, and what is known after it is true.
abbrev pub CallsAreHeard : {R : Type 0} → Kind R → Type 0
CallsAreHeard {R} kind = (h : History R) (m n : Machine) (call : Call R) (a : Answer R)
    → EndsThere m → Known kind h m → Step kind m call a n → RightBy kind h m call a × Known kind (heard kind h call a) n

-- What is known after a restart is true.
abbrev pub RestartsAreHeard : {R : Type 0} → Kind R → Type 0
RestartsAreHeard {R} kind = (h : History R) (m n : Machine) → Known kind h m → MachineRestarted m n → Known kind (returned h n) n

-- A list without requests keeps the promise.
abbrev pub NoRequests : {R : Type 0} → Kind R → Type 0
NoRequests kind = (m : Machine) → Performs kind m [] [] m

-- One call more, which is a step if the store is in order.
abbrev pub OneCallMore : {R : Type 0} → Kind R → Type 0
OneCallMore {R} kind = (m n p : Machine) (requests : List (Request R)) (answers : List (Answer R)) (call : Call R) (a : Answer R)
    → Performs kind m requests answers n → EndsThere n → (InOrder n → Step kind n call a p) → Performs kind m (requests ++ aCall call ∷ []) (answers ++ a ∷ []) p

-- One restart more.
abbrev pub OneRestartMore : {R : Type 0} → Kind R → Type 0
OneRestartMore {R} kind = (m n p : Machine) (requests : List (Request R)) (answers : List (Answer R)) (how : Return)
    → Performs kind m requests answers n → MachineRestarted n p → Performs kind m (requests ++ Restart how ∷ []) (answers ++ Done ∷ []) p

-- Two lists, of which the second goes on where the first has ended, are one list.
abbrev pub ListsJoin : {R : Type 0} → Kind R → Type 0
ListsJoin {R} kind = (m n p : Machine) (first second : List (Request R)) (one two : List (Answer R))
    → Performs kind m first one n → Performs kind n second two p → Performs kind m (first ++ second) (one ++ two) p

-- an event as a request, where restarts go as `how` says, and its answer
abbrev pub request_of : {R : Type 0} → Return → Event R → Request R
request_of how (called call a) = aCall call
request_of how restart = Restart how

abbrev pub answer_of : {R : Type 0} → Event R → Answer R
answer_of (called call a) = a
answer_of restart = Done

-- Every run from an accepted format on is told as a list of requests to a store of which nothing was known.
abbrev pub RunsAreTold : {R : Type 0} → Kind R → Type 0
RunsAreTold {R} kind = (how : Return) (es : List (Event R)) (b : Book) (m : Machine) (k : Came kind es b m)
    → Told kind unknown k.before (aCall Format ∷ map (request_of how) es) (Done ∷ map answer_of es) (since es b) m
