-- Lists of requests keep the promise as they grow.
use Rattle.std.proofs.Common.{List, [], ◌∷◌, ◌++◌, sym, subst, append_assoc, append-nil}
use Rattle.calls.specs.declared.answer.Answer.{Answer}
use Rattle.calls.specs.declared.answer.Answer.TheVariants.{Done}
use Rattle.calls.specs.Plans.{Machine, Kind}
use Rattle.calls.specs.Steps.{Step}
use Rattle.book.specs.Promise.{Lawful}
use Rattle.promise.specs.declared.request.Request.{Request}
use Rattle.promise.specs.declared.request.Request.TheVariants.{Call as aCall, Restart}
use Rattle.promise.specs.History.{History, heard, returned}
use Rattle.promise.specs.Told.{Told, nothing, asked, restarted}
use Rattle.promise.specs.Laws.{NoRequests, OneCallMore, OneRestartMore, ListsJoin}
use Rattle.promise.proofs.Heard.{known_stores_keep_the_promise, calls_are_right, calls_stay_known, restarts_are_heard}

module _ {R : Type 0} (kind : Kind R) where
  -- what was told of two lists, one after the other, is told of both as one
  told_on : (h₀ : History R) (m₀ : Machine) (first : List (Request R)) (one : List (Answer R)) (h : History R) (m : Machine) → Told kind h₀ m₀ first one h m
      → (second : List (Request R)) (two : List (Answer R)) (g : History R) (n : Machine) → Told kind h m second two g n
      → Told kind h₀ m₀ (first ++ second) (one ++ two) g n
  told_on h₀ m₀ first one h m t second two g n nothing =
      subst (λ (x : List (Request R)). Told kind h₀ m₀ x (one ++ []) h m) (sym (append-nil first))
      (subst (λ (y : List (Answer R)). Told kind h₀ m₀ first y h m) (sym (append-nil one)) t)
  told_on h₀ m₀ first one h m t second two g n (asked {requests} {answers} {h = k} {m = x} {call} {a} u right s) =
      subst (λ (z : List (Request R)). Told kind h₀ m₀ z (one ++ (answers ++ a ∷ [])) (heard kind k call a) n) (append_assoc first requests (aCall call ∷ []))
      (subst (λ (z : List (Answer R)). Told kind h₀ m₀ ((first ++ requests) ++ aCall call ∷ []) z (heard kind k call a) n) (append_assoc one answers (a ∷ []))
      (asked (told_on h₀ m₀ first one h m t requests answers k x u) right s))
  told_on h₀ m₀ first one h m t second two g n (restarted {requests} {answers} {h = k} {m = x} u how r) =
      subst (λ (z : List (Request R)). Told kind h₀ m₀ z (one ++ (answers ++ Done ∷ [])) (returned k n) n) (append_assoc first requests (Restart how ∷ []))
      (subst (λ (z : List (Answer R)). Told kind h₀ m₀ ((first ++ requests) ++ Restart how ∷ []) z (returned k n) n) (append_assoc one answers (Done ∷ []))
      (restarted (told_on h₀ m₀ first one h m t requests answers k x u) how r))

  pub lists_join : ListsJoin kind
  lists_join m n p first second one two f g h k =
      let x = f h k in
      let y = g x.history x.known in
      record {
        history = y.history;
        told = told_on h m first one x.history n x.told second two y.history p y.told;
        known = y.known;
        upheld = y.upheld;
      }

  module _ (lawful : Lawful kind) where
    pub no_requests : NoRequests kind
    no_requests m h k = record { history = h; told = nothing; known = k; upheld = known_stores_keep_the_promise kind lawful h m k }

    pub one_call_more : OneCallMore kind
    one_call_more m n p requests answers call a f ends step h k =
        let x = f h k in
        let s : Step kind n call a p = step x.known.order in
        let after = calls_stay_known kind lawful x.history n p call a ends x.known s in
        record {
          history = heard kind x.history call a;
          told = asked x.told (calls_are_right kind lawful x.history n p call a x.known s) s;
          known = after;
          upheld = known_stores_keep_the_promise kind lawful (heard kind x.history call a) p after;
        }

    pub one_restart_more : OneRestartMore kind
    one_restart_more m n p requests answers how f r h k =
        let x = f h k in
        let after = restarts_are_heard kind x.history n p x.known r in
        record {
          history = returned x.history p;
          told = restarted x.told how r;
          known = after;
          upheld = known_stores_keep_the_promise kind lawful (returned x.history p) p after;
        }
