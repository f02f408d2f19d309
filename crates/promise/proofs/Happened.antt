-- Every run from an accepted format on is known, and is told as a list of requests.
use Rattle.std.proofs.Common.{ℕ, false, List, [], ◌∷◌, ◌++◌, map, sym, refl, ap, subst}
use mathlib.Core.List.{map-append}
use Rattle.std.proofs.lemmas.Bool.{both_ways, cond-false}
use Rattle.calls.specs.declared.call.Call.TheVariants.{Format}
use Rattle.calls.specs.declared.answer.Answer.{Answer}
use Rattle.calls.specs.declared.answer.Answer.TheVariants.{Done}
use Rattle.calls.specs.Plans.{Machine, Kind}
use Rattle.calls.specs.Steps.{Step}
use Rattle.order.specs.Order.{InOrder, EndsThere}
use Rattle.order.proofs.Kept.{calls_keep_order}
use Rattle.order.proofs.Unchanged.{restarts_give_order}
use Rattle.book.specs.Book.{Book, blank, next, restarted}
use Rattle.book.specs.Runs.{Event, called, restart, Run, start, asked, returned, is_format, is_kept}
use Rattle.book.specs.Commits.{no_tally}
use Rattle.book.specs.Promise.{Lawful}
use Rattle.book.proofs.Follows.{Follows, lives, gone}
use Rattle.book.proofs.Main.{begins}
use Rattle.promise.specs.declared.request.Return.{Return}
use Rattle.promise.specs.declared.request.Request.{Request}
use Rattle.promise.specs.declared.request.Request.TheVariants.{Call as aCall}
use Rattle.promise.specs.History.{History, unknown, since, format_heard, Came}
use Rattle.promise.specs.Told.{Told, nothing, asked as tells, restarted as tells-restart}
use Rattle.promise.specs.Laws.{RunsAreKnown, request_of, answer_of, RunsAreTold}
use Rattle.promise.proofs.Ends.{calls_keep_ends, restarts_keep_ends}
use Rattle.promise.proofs.Heard.{new_stores_are_known, calls_are_right}

module _ {R : Type 0} (kind : Kind R) (lawful : Lawful kind) where
  -- after an accepted format the store is as good as new
  blank_order : (N B : ℕ) (m : Machine) → Follows kind N B m blank no_tally → InOrder m
  blank_order N B m (lives v) =
      (new_stores_are_known kind m (sym (ap (λ (b : Book). b.state) v.book)) (sym (ap (λ (b : Book). b.list) v.book))).order
  blank_order N B m (gone v) = absurd (both_ways false refl v.book)

  run_order : (m₁ : Machine) (b₁ : Book) → EndsThere m₁ → InOrder m₁ → (es : List (Event R)) (m : Machine) (b : Book) → Run kind m₁ b₁ es m b → EndsThere m × InOrder m
  run_order m₁ b₁ e o es m b start = (e, o)
  run_order m₁ b₁ e o es m b (asked {events} {m = x} {b = y} {call} {a} run f s) =
      let (ends, order) = run_order m₁ b₁ e o events x y run in
      (calls_keep_ends kind x m call a ends s, calls_keep_order kind lawful.whole x m call a order ends s)
  run_order m₁ b₁ e o es m b (returned {events} {m = x} run r) = (restarts_keep_ends x m r, restarts_give_order x m r)

  pub runs_are_known : RunsAreKnown kind
  runs_are_known es b m k =
      let first_ends : EndsThere k.first = calls_keep_ends kind k.before k.first Format Done k.ends k.format in
      let first-order : InOrder k.first = blank_order _ _ k.first (begins kind lawful k.before k.first k.ends k.format) in
      record { order = (run_order k.first blank first_ends first-order es m b k.run).1; past = k }

  -- the list so far, and one request more
  module _ (how : Return) (before first : Machine) (ends : EndsThere before) (format : Step kind before Format Done first) where
    abbrev Tells : List (Event R) → History R → Machine → Type 0
    Tells es h m = Told kind unknown before (aCall Format ∷ map (request_of how) es) (Done ∷ map answer_of es) h m

    one_more : (es : List (Event R)) (e : Event R) (h : History R) (m : Machine)
        → Told kind unknown before (aCall Format ∷ (map (request_of how) es ++ request_of how e ∷ [])) (Done ∷ (map answer_of es ++ answer_of e ∷ [])) h m → Tells (es ++ e ∷ []) h m
    one_more es e h m t =
        subst (λ (x : List (Request R)). Told kind unknown before (aCall Format ∷ x) (Done ∷ map answer_of (es ++ e ∷ [])) h m) (sym (map-append (request_of how) es (e ∷ [])))
        (subst (λ (y : List (Answer R)). Told kind unknown before (aCall Format ∷ (map (request_of how) es ++ request_of how e ∷ [])) (Done ∷ y) h m) (sym (map-append answer_of es (e ∷ []))) t)

    came : (es : List (Event R)) (m : Machine) (b : Book) → Run kind first blank es m b → Came kind es b m
    came es m b run = record { before = before; ends = ends; first = first; format = format; run = run }

    run_told : (es : List (Event R)) (m : Machine) (b : Book) → Run kind first blank es m b → Tells es (since es b) m
    run_told es m b start = tells {requests = []} {answers = []} nothing tt format
    run_told es m b (asked {events} {m = x} {b = y} {call} {a} run f s) =
        one_more events (called call a) (since (events ++ called call a ∷ []) (next kind y call a)) m
        (subst (λ (h : History R). Told kind unknown before (aCall Format ∷ (map (request_of how) events ++ aCall call ∷ [])) (Done ∷ (map answer_of events ++ a ∷ [])) h m)
        (cond-false (is_format call) (format_heard (since events y) a) (since (events ++ called call a ∷ []) (next kind y call a)) f)
        (tells {requests = aCall Format ∷ map (request_of how) events} {answers = Done ∷ map answer_of events} (run_told events x y run)
        (calls_are_right kind lawful (since events y) x m call a (runs_are_known events y x (came events x y run)) s) s))
    run_told es m b (returned {events} {m = x} {b = y} run r) =
        one_more events restart (since (events ++ restart ∷ []) (restarted y (is_kept y m))) m
        (tells-restart {requests = aCall Format ∷ map (request_of how) events} {answers = Done ∷ map answer_of events} (run_told events x y run) how r)

  pub runs_are_told : RunsAreTold kind
  runs_are_told how es b m k = run_told how k.before k.first k.ends k.format es m b k.run
