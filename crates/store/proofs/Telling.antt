-- Calls that are made one by one, told as one list. Assumes nothing.
use Rattle.calls.specs.Plans.{Kind}
use Rattle.book.specs.Promise.{Lawful}
use Rattle.promise.proofs.Lists.{no_requests, one_call_more, one_restart_more}
use Rattle.store.specs.OneByOne.{none, call, back, CallsOneByOneAreAList}

pub calls_one_by_one : {R : Type 0} (kind : Kind R) → Lawful kind → CallsOneByOneAreAList kind
calls_one_by_one kind lawful m n requests answers none = no_requests kind lawful m
calls_one_by_one kind lawful m p requests answers (call {requests = rs} {answers = so_far} {n = n} {c = c} {a = a} before ends this) =
    one_call_more kind lawful m n p rs so_far c a (calls_one_by_one kind lawful m n rs so_far before) ends (λ order. (this order).step)
calls_one_by_one kind lawful m p requests answers (back {requests = rs} {answers = so_far} {n = n} before how this) =
    one_restart_more kind lawful m n p rs so_far how (calls_one_by_one kind lawful m n rs so_far before) this
