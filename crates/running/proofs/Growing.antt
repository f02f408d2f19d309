-- A list of requests that is performed one by one. Assumes nothing.
use Rattle.std.proofs.Common.{◌≡◌, ℕ, ◌+◌, ◌<◌, ◌≤◌, List, [], ◌∷◌, ◌++◌, length, get_or, take, sym, ap, ◌∙◌, subst}
use Rattle.std.proofs.lemmas.List.{take_all, take_more}
use Rattle.calls.specs.declared.answer.Answer.{Answer}
use Rattle.calls.specs.Plans.{Machine, Kind}
use Rattle.promise.specs.declared.request.Request.{Request}
use Rattle.promise.specs.Told.{Performs}
use Rattle.promise.proofs.Lists.{lists_join}

-- the next request of a list, performed after those before it
pub one_more : {R : Type 0} (kind : Kind R) (m n p : Machine) (xs : List (Request R)) (i : ℕ) (x : Request R) (given bs : List (Answer R)) (a : Answer R)
    → i < length xs → x ≡ get_or xs i x → bs ≡ given ++ a ∷ []
    → Performs kind m (take i xs) given n → Performs kind n (x ∷ []) (a ∷ []) p → Performs kind m (take (i + 1) xs) bs p
one_more {R} kind m n p xs i x given bs a lt is next so_far this =
    subst (λ (l : List (Request R)). Performs kind m l bs p) (ap (λ (y : Request R). take i xs ++ y ∷ []) is ∙ sym (take_more xs i x lt))
    (subst (λ (l : List (Answer R)). Performs kind m (take i xs ++ x ∷ []) l p) (sym next) (lists_join kind m n p (take i xs) (x ∷ []) given (a ∷ []) so_far this))

-- the whole list
pub all_done : {R : Type 0} (kind : Kind R) (m n : Machine) (xs : List (Request R)) (i : ℕ) (given : List (Answer R)) → length xs ≤ i → Performs kind m (take i xs) given n → Performs kind m xs given n
all_done {R} kind m n xs i given le p = subst (λ (l : List (Request R)). Performs kind m l given n) (take_all i xs le) p
