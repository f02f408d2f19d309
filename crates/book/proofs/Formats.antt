-- A format of a store whose own format was accepted: it is answered right by the book, and while the book bars it, it changes
-- nothing.
use Rattle.std.proofs.Common.{◌≡◌, ℕ, Bool, true, false, cond, ◌⊎◌, List, [], ◌∷◌, sym, refl, ap, ◌∙◌, subst, inl, inr}
use Rattle.std.proofs.lemmas.Bool.{cond-true, both_ways}
use Rattle.refusal.specs.declared.reason.Refusal.{Refusal}
use Rattle.refusal.specs.declared.reason.Refusal.TheVariants.{BadSize}
use Rattle.crash.specs.Pair.{Pair, is_dark}
use Rattle.crash.proofs.Runs.{stopped_none}
use Rattle.ringlaws.specs.TxnInfo.{Transaction}
use Rattle.calls.specs.declared.state.State.{State}
use Rattle.calls.specs.declared.state.State.TheVariants.{Unmounted, Idle, Open}
use Rattle.calls.specs.declared.call.Call.TheVariants.{Format}
use Rattle.calls.specs.declared.answer.Answer.{Answer}
use Rattle.calls.specs.declared.answer.Answer.TheVariants.{Refused, Done}
use Rattle.calls.specs.Acts.{format_acts}
use Rattle.calls.specs.Plans.{Machine, Kind, Plan, places_of, blocks_of, fit_sizes, refusing, plan_of}
use Rattle.calls.specs.Steps.{Step, was_dark, went, went_dark, Went, WentDark}
use Rattle.book.specs.Book.{Book}
use Rattle.book.specs.Commits.{Tally}
use Rattle.book.specs.Promise.{Lawful, Right}
use Rattle.order.proofs.Own.{own_places, own_blocks}
use Rattle.order.proofs.Performed.{performed_none}
use Rattle.book.proofs.Follows.{live, tallied, Live, Follows, lives, gone}
use Rattle.book.proofs.Went.{machine, fits}

module _ {R : Type 0} (kind : Kind R) (lawful : Lawful kind) (N B : ℕ) where
  -- with power
  module _ (m : Machine) (b : Book) (t : Tally) (v : Live kind N B m b t) (a : Answer R) (n : Machine) where
    abbrev RightIn : State → Type 0
    RightIn s = Right kind (places_of m) (blocks_of m) (live v.units s m.list) v.ly Format a

    -- the sizes fit
    format_is : plan_of kind (machine m.devices Unmounted m.list) Format
        ≡ record { acts = format_acts (places_of m) (blocks_of m); answer = Done; state = Unmounted; list = [] }
    format_is =
        cond-true (fit_sizes m.devices.nvm.size (blocks_of m)) (record { acts = format_acts (places_of m) (blocks_of m); answer = Done; state = Unmounted; list = [] })
        (refusing (machine m.devices Unmounted m.list) BadSize)
        (fits kind lawful N B m.devices v.ring v.units v.keeps v.lit v.readable m.state m.list v.cs v.ly v.lying v.good v.commits)

    went_right : (s : State) → Went (plan_of kind (machine m.devices s m.list) Format) m a n → RightIn s
    went_right Unmounted w = inr (inl (refl, w.says ∙ ap (λ (p : Plan R). p.answer) format_is))
    went_right Idle w = inr (inl (refl, w.says))
    went_right Open w = inr (inl (refl, w.says))

    cut_right : (s : State) → WentDark (plan_of kind (machine m.devices s m.list) Format) m a n → RightIn s
    cut_right Unmounted w = inr (inr (refl, refl, refl, w.says))
    cut_right Idle w = absurd (stopped_none w.acts)
    cut_right Open w = absurd (stopped_none w.acts)

    by_step : Step kind m Format a n → RightIn m.state
    by_step (was_dark w) = absurd (both_ways (is_dark m.devices) v.lit w.before)
    by_step (went w) = went_right m.state w
    by_step (went_dark w) = cut_right m.state w

    live_right : Step kind m Format a n → Right kind (places_of m) (blocks_of m) b t.lying Format a
    live_right s =
        subst (λ (x : Book). Right kind (places_of m) (blocks_of m) x t.lying Format a) (sym v.book)
        (subst (λ (y : Tally). Right kind (places_of m) (blocks_of m) (live v.units m.state m.list) y.lying Format a) (sym v.tally) (by_step s))

    -- a mounted store refuses it, and stays as it is
    refusal_same : (s : State) → m.state ≡ s → (s ≡ Unmounted → ⊥) → Went (plan_of kind (machine m.devices s m.list) Format) m a n → n ≡ m
    refusal_same Unmounted e h w = absurd (h refl)
    refusal_same Idle e h w = λ i. machine (performed_none w.acts i) ((w.state ∙ sym e) i) (w.list i)
    refusal_same Open e h w = λ i. machine (performed_none w.acts i) ((w.state ∙ sym e) i) (w.list i)

    cut_same : (s : State) → (s ≡ Unmounted → ⊥) → WentDark (plan_of kind (machine m.devices s m.list) Format) m a n → n ≡ m
    cut_same Unmounted h w = absurd (h refl)
    cut_same Idle h w = absurd (stopped_none w.acts)
    cut_same Open h w = absurd (stopped_none w.acts)

    live_same : (m.state ≡ Unmounted → ⊥) → Step kind m Format a n → n ≡ m
    live_same h (was_dark w) = w.same
    live_same h (went w) = refusal_same m.state refl h w
    live_same h (went_dark w) = cut_same m.state h w

  pub format_right : (m n : Machine) (b : Book) (t : Tally) (a : Answer R) → Follows kind N B m b t → Step kind m Format a n
      → Right kind (places_of m) (blocks_of m) b t.lying Format a
  format_right m n b t a (lives v) s = live_right m b t v a n s
  format_right m n b t a (gone v) (was_dark w) = inl (v.book, w.says)
  format_right m n b t a (gone v) (went w) = absurd (both_ways (is_dark m.devices) w.before v.out)
  format_right m n b t a (gone v) (went_dark w) = absurd (both_ways (is_dark m.devices) w.before v.out)

  -- a format that is asked of a dark or a mounted book changes nothing
  pub barred_same : (m n : Machine) (b : Book) (t : Tally) (a : Answer R) → Follows kind N B m b t → (b.dark ≡ true) ⊎ (b.state ≡ Unmounted → ⊥)
      → Step kind m Format a n → n ≡ m
  barred_same m n b t a (lives v) (inl dark) s = absurd (both_ways b.dark (ap (λ (x : Book). x.dark) v.book) dark)
  barred_same m n b t a (lives v) (inr mounted) s = live_same m b t v a n (λ e. mounted (ap (λ (x : Book). x.state) v.book ∙ e)) s
  barred_same m n b t a (gone v) h (was_dark w) = w.same
  barred_same m n b t a (gone v) h (went w) = absurd (both_ways (is_dark m.devices) w.before v.out)
  barred_same m n b t a (gone v) h (went_dark w) = absurd (both_ways (is_dark m.devices) w.before v.out)
