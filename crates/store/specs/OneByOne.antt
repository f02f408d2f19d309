-- A program that makes the calls of a store one by one. Assumes nothing.
use Rattle.std.specs.Prelude.{List, [], ◌∷◌, ◌++◌}
use Rattle.calls.specs.declared.call.Call.{Call}
use Rattle.calls.specs.declared.answer.Answer.{Answer}
use Rattle.calls.specs.declared.answer.Answer.TheVariants.{Done}
use Rattle.calls.specs.Plans.{Machine, Kind}
use Rattle.calls.specs.Steps.{MachineRestarted}
use Rattle.order.specs.Order.{InOrder, EndsThere}
use Rattle.engine.specs.Called.{Called}
use Rattle.promise.specs.declared.request.Request.{Request}
use Rattle.promise.specs.declared.request.Request.TheVariants.{Call as aCall, Restart}
use Rattle.promise.specs.declared.request.Return.{Return}
use Rattle.promise.specs.Told.{Performs}

-- Calls with their answers and restarts, from one store to the next, each as its contract says. The newest is last.
pub data OneByOne {R : Type 0} (kind : Kind R) (m : Machine) : List (Request R) → List (Answer R) → Machine → Type 0 where
  none : OneByOne kind m [] [] m
  call : {requests : List (Request R)} {answers : List (Answer R)} {n p : Machine} {c : Call R} {a : Answer R}
      → OneByOne kind m requests answers n → EndsThere n → (InOrder n → Called kind n c a p)
      → OneByOne kind m (requests ++ aCall c ∷ []) (answers ++ a ∷ []) p
  back : {requests : List (Request R)} {answers : List (Answer R)} {n p : Machine}
      → OneByOne kind m requests answers n → (how : Return) → MachineRestarted n p
      → OneByOne kind m (requests ++ Restart how ∷ []) (answers ++ Done ∷ []) p

-- they keep the promise as one list does
abbrev pub CallsOneByOneAreAList : {R : Type 0} → Kind R → Type 0
CallsOneByOneAreAList {R} kind =
    (m n : Machine) (requests : List (Request R)) (answers : List (Answer R)) → OneByOne kind m requests answers n → Performs kind m requests answers n
