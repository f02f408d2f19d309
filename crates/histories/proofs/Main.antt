-- Any two records of a lawful kind have a history, which is also told as a list of requests. Assumes nothing.
use Rattle.std.proofs.Common.{◌≡◌, ℕ, ◌≤◌, Bool, true, false, cond, ltb, List, [], ◌∷◌, ◌++◌, sym, refl, ap, ◌∙◌, inl, inr, arith}
use Rattle.std.proofs.lemmas.Bool.{le-ltb, cases_Bool}
use Rattle.refusal.specs.declared.reason.Refusal.TheVariants.{Dark}
use Rattle.device.specs.Pieces.{settled, unsettled, is_unsettled}
use Rattle.device.specs.Words.{Word, waiting}
use Rattle.device.specs.Sectors.{Sector, waits}
use Rattle.crash.specs.Pair.{Pair, both, PerformedPair}
use Rattle.ringlaws.specs.Newest.{setting_of, lay, laid}
use Rattle.calls.specs.declared.state.State.TheVariants.{Unmounted, Idle, Open}
use Rattle.calls.specs.declared.call.Call.TheVariants.{Format, Mount, Begin, Set, Read, Commit}
use Rattle.calls.specs.declared.answer.Answer.TheVariants.{Refused, Done, Used, Blocks, Found}
use Rattle.calls.specs.Table.{zero_unit, is_named, names_in}
use Rattle.calls.specs.Acts.{format_acts, named_blocks}
use Rattle.calls.specs.Plans.{Machine, Kind, blocks_of, put}
use Rattle.calls.specs.Steps.{Step, went, MachineRestarted}
use Rattle.calllaws.specs.FormatLaw.{AnyContents}
use Rattle.calllaws.proofs.Formats.{formats_make_an_empty_store}
use Rattle.order.specs.Order.{EndsThere}
use Rattle.order.proofs.Performed.{stays_lit}
use Rattle.book.specs.Book.{Book, blank, next, restarted, book_read}
use Rattle.book.specs.Runs.{Event, called, restart, Run, start, asked, returned, is_kept}
use Rattle.book.specs.Commits.{places_taken, none}
use Rattle.book.specs.Promise.{Lawful}
use Rattle.book.proofs.Main.{every_run_keeps_the_book}
use Rattle.book.proofs.Went.{machine}
use Rattle.promise.specs.declared.request.Return.{Return}
use Rattle.promise.specs.History.{Came}
use Rattle.promise.proofs.Heard.{new_stores_are_known}
use Rattle.promise.proofs.Happened.{runs_are_known, runs_are_told}
use Rattle.histories.specs.History.{Ending, History, up_to_the_cut, AHistoryHappens}
use Rattle.histories.specs.Requests.{all_asked, Asked, AListHappens}
use Rattle.histories.proofs.Performing.{made_by, accepted_performs}
use Rattle.histories.proofs.Stands.{five, found, Stands, Mounts, mounts, begins, sets, reads, Commits, commits}
use Rattle.histories.proofs.Cut.{dark, cuts, old, new, old_returns, new_returns, old_stands, new_stands}

-- noise: each word and sector of the devices is unsettled
abbrev noisy_word : ℕ → Word
noisy_word w = cond (ltb w 1056) (unsettled waiting w 7) (settled 0)

abbrev noisy_sector : ℕ → Sector
noisy_sector i = cond (ltb i 8) (unsettled waits (i ∷ []) []) (settled [])

abbrev noise : Pair
noise = both (record { size = 33; dark = false; piece = noisy_word }) (record { size = 1; dark = false; piece = noisy_sector })

noise_ends : EndsThere (machine noise Unmounted [])
noise_ends = record {
  nvm = λ w h. ap (λ b. is_unsettled (cond b (unsettled waiting w 7) (settled 0))) (le-ltb w 1056 (omega arith));
  disk = λ i h. ap (λ b. is_unsettled (cond b (unsettled waits (i ∷ []) []) (settled []))) (le-ltb i 8 (omega arith));
}

noise_any : AnyContents 32 1 noise
noise_any = record {
  least = omega arith;
  most = omega arith;
  some = omega arith;
  few = omega arith;
  units = refl;
  blocks = refl;
  words_end = noise_ends.nvm;
  sectors_end = noise_ends.disk;
}

laid_nothing : (r : ℕ) → laid [] (λ _. zero_unit) r ≡ zero_unit
unfolding laid
laid_nothing r = refl

module _ {R : Type 0} (kind : Kind R) (lawful : Lawful kind) where
  -- the devices after a format
  record Formats : Type 0 where
    after : Pair
    step : Step kind (machine noise Unmounted []) Format Done (machine after Unmounted [])
    stands : Stands kind lawful after [] (λ r. zero_unit)

  formats : Formats
  formats =
      let law = formats_make_an_empty_store 32 1 noise noise_any in
      let p : Pair = made_by (format_acts 32 1) noise in
      let ran : PerformedPair noise (format_acts 32 1) p = accepted_performs (format_acts 32 1) noise refl law.0 in
      record {
        after = p;
        step = went (record { before = refl; says = refl; acts = ran; state = refl; list = refl });
        stands = record {
          lit = stays_lit (format_acts 32 1) noise p refl ran;
          keeps = law.1 p ran;
          readable = λ r. inl refl;
          cs = [];
          commits = record { there = []; kept = none; same = λ r lt. sym (laid_nothing r) };
        };
      }

  none_taken : places_taken [] ≤ 2
  unfolding places_taken
  none_taken = omega arith

  abbrev zeros : ℕ → List ℕ
  zeros r = zero_unit

  first : Mounts kind lawful formats.after [] zeros formats.stands
  first = mounts kind lawful formats.after [] zeros formats.stands

  module _ (x y : R) where
    abbrev u : List ℕ
    u = kind.unit x

    abbrev v : List ℕ
    v = kind.unit y

    abbrev units : ℕ → List ℕ
    units = lay (five u) zeros

    one : Commits kind lawful first.after [] zeros first.stands none_taken x
    one = commits kind lawful first.after [] zeros first.stands none_taken x

    -- the machines of the history
    abbrev m₁ : Machine
    m₁ = machine formats.after Unmounted []

    abbrev idle : Machine
    idle = machine first.after Idle []

    abbrev idle_again : Machine
    idle_again = machine one.after Idle []

    abbrev darkened : Machine
    darkened = machine (dark kind lawful one.after u units one.stands y) Open (five v)

    mount_step : Step kind m₁ Mount (Blocks 0) idle
    unfolding named_blocks is_named
    mount_step = first.step

    commit_step : Step kind (machine first.after Open (five u)) Commit (Used 2) idle_again
    unfolding places_taken
    commit_step = one.step

    -- the books
    abbrev book_once : Book
    book_once = next kind (next kind (next kind (next kind blank Mount (Blocks 0)) Begin Done) (Set 5 x) Done) Commit (Used 2)

    abbrev book_cut : Book
    book_cut = next kind (next kind (next kind book_once Begin Done) (Set 5 y) Done) Commit (Refused Dark)

    -- after a restart, with the cut commit kept or not, and a mount
    abbrev book_mounted : Bool → Book
    book_mounted keep = next kind (restarted book_cut keep) Mount (Blocks 1)

    -- up to the first commit
    abbrev once : List (Event R)
    once = called Mount (Blocks 0) ∷ called Begin Done ∷ called (Set 5 x) Done ∷ called Commit (Used 2) ∷ []

    run_once : Run kind m₁ blank once idle_again book_once
    run_once =
        asked {events = called Mount (Blocks 0) ∷ called Begin Done ∷ called (Set 5 x) Done ∷ []}
        (asked {events = called Mount (Blocks 0) ∷ called Begin Done ∷ []}
        (asked {events = called Mount (Blocks 0) ∷ []} (asked {events = []} start refl mount_step) refl (begins kind lawful first.after [] zeros first.stands))
        refl (sets kind lawful first.after [] zeros first.stands x))
        refl commit_step

    run_cut : Run kind m₁ blank (up_to_the_cut x y) darkened book_cut
    run_cut =
        asked {events = once ++ called Begin Done ∷ called (Set 5 y) Done ∷ []}
        (asked {events = once ++ called Begin Done ∷ []}
        (asked {events = once} run_once refl (begins kind lawful one.after (five u ∷ []) units one.stands))
        refl (sets kind lawful one.after (five u ∷ []) units one.stands y))
        refl (cuts kind lawful one.after u units one.stands y)

    -- the two endings
    abbrev old_pair : Pair
    old_pair = old kind lawful one.after u units one.stands y

    abbrev new_pair : Pair
    new_pair = new kind lawful one.after u units one.stands y

    old_mounts : Mounts kind lawful old_pair (five u ∷ []) units (old_stands kind lawful one.after u units one.stands y)
    old_mounts = mounts kind lawful old_pair (five u ∷ []) units (old_stands kind lawful one.after u units one.stands y)

    new_mounts : Mounts kind lawful new_pair (five u ∷ five v ∷ []) (lay (five v) units) (new_stands kind lawful one.after u units one.stands y)
    new_mounts = mounts kind lawful new_pair (five u ∷ five v ∷ []) (lay (five v) units) (new_stands kind lawful one.after u units one.stands y)

    old_step : Step kind (machine old_pair Unmounted []) Mount (Blocks 1) (machine old_mounts.after Idle [])
    unfolding named_blocks is_named names_in
    old_step = old_mounts.step

    new_step : Step kind (machine new_pair Unmounted []) Mount (Blocks 1) (machine new_mounts.after Idle [])
    unfolding named_blocks is_named names_in
    new_step = new_mounts.step

    old_five : units 5 ≡ u
    unfolding setting_of
    old_five = refl

    new_five : lay (five v) units 5 ≡ v
    unfolding setting_of
    new_five = refl

    -- what comes of a return: the run up to the mount, and a read
    record Comes (z : R) (back : Machine) : Type 0 where
      returns : MachineRestarted darkened back
      last : Machine
      one_block : blocks_of last ≡ 1
      mount : Step kind back Mount (Blocks 1) last
      read : Step kind last (Read 5) (Found z) last

    abbrev mounted : List (Event R)
    mounted = up_to_the_cut x y ++ restart ∷ called Mount (Blocks 1) ∷ []

    run_mounted : (z : R) (back : Machine) (e : Comes z back) → Run kind m₁ blank mounted e.last (book_mounted (is_kept book_cut back))
    run_mounted z back e =
        asked {events = up_to_the_cut x y ++ restart ∷ []} (returned {events = up_to_the_cut x y} run_cut e.returns) refl e.mount

    ending : (z : R) (back : Machine) → Comes z back → Ending kind m₁ darkened (up_to_the_cut x y) z
    ending z back e = record {
      back = back;
      returns = e.returns;
      last = e.last;
      book = next kind (book_mounted (is_kept book_cut back)) (Read 5) (Found z);
      run = asked {events = mounted} (run_mounted z back e) refl e.read;
    }

    -- the promise says that the read is the book's
    read_is : (z : R) (back : Machine) → Comes z back → Found z ≡ book_read kind 1 (book_mounted (is_kept book_cut back)) 5
    read_is z back e =
        (every_run_keeps_the_book kind lawful (machine noise Unmounted []) m₁ noise_ends formats.step mounted e.last (book_mounted (is_kept book_cut back)) (run_mounted z back e)
        ).reads 5 (Found z) e.last e.read
        ∙ ap (λ (b : ℕ). book_read kind b (book_mounted (is_kept book_cut back)) 5) e.one_block

    with_commit : book_read kind 1 (book_mounted true) 5 ≡ Found y
    unfolding setting_of put
    with_commit = found kind lawful y

    without_commit : book_read kind 1 (book_mounted false) 5 ≡ Found x
    unfolding setting_of put
    without_commit = found kind lawful x

    same_found : (a b : R) → Found a ≡ Found b → a ≡ b
    same_found a b e = cc

    -- so the book kept the commit, or did not
    was_left : (back : Machine) → Comes x back → (x ≡ y → ⊥) → is_kept book_cut back ≡ false
    was_left back e ne = elim (cases_Bool (is_kept book_cut back)) [
      | inl k ↦ absurd (ne (same_found x y (read_is x back e ∙ ap (λ (b : Bool). book_read kind 1 (book_mounted b) 5) k ∙ with_commit)))
      | inr k ↦ k
    ]

    was_kept : (back : Machine) → Comes y back → (x ≡ y → ⊥) → is_kept book_cut back ≡ true
    was_kept back e ne = elim (cases_Bool (is_kept book_cut back)) [
      | inl k ↦ k
      | inr k ↦ absurd (ne (same_found x y (sym (read_is y back e ∙ ap (λ (b : Bool). book_read kind 1 (book_mounted b) 5) k ∙ without_commit))))
    ]

    old_comes : Comes x (machine old_pair Unmounted [])
    old_comes = record {
      returns = old_returns kind lawful one.after u units one.stands y;
      last = machine old_mounts.after Idle [];
      one_block = old_mounts.stands.keeps.ready.blocks;
      mount = old_step;
      read = reads kind lawful old_mounts.after [] units old_mounts.stands x old_five;
    }

    new_comes : Comes y (machine new_pair Unmounted [])
    new_comes = record {
      returns = new_returns kind lawful one.after u units one.stands y;
      last = machine new_mounts.after Idle [];
      one_block = new_mounts.stands.keeps.ready.blocks;
      mount = new_step;
      read = reads kind lawful new_mounts.after [] (lay (five v) units) new_mounts.stands y new_five;
    }

    history : History kind x y
    unfolding ending
    history = record {
      noisy = machine noise Unmounted [];
      ends = noise_ends;
      formatted = m₁;
      format = formats.step;
      dark = darkened;
      book = book_cut;
      run = run_cut;
      cut = refl;
      without = ending x (machine old_pair Unmounted []) old_comes;
      left = was_left (machine old_pair Unmounted []) old_comes;
      with_it = ending y (machine new_pair Unmounted []) new_comes;
      kept = was_kept (machine new_pair Unmounted []) new_comes;
    }

    -- the history as a list of requests
    as_asked : (how : Return) (z : R) (back : Machine) → Comes z back → Asked kind how x y z
    as_asked how z back e =
        let end = ending z back e in
        let came : Came kind (all_asked x y z) end.book end.last =
        record { before = machine noise Unmounted []; ends = noise_ends; first = m₁; format = formats.step; run = end.run } in
        record {
          new = machine noise Unmounted [];
          nothing = new_stores_are_known kind (machine noise Unmounted []) refl refl;
          last = end.last;
          book = end.book;
          told = runs_are_told kind lawful how (all_asked x y z) end.book end.last came;
          known = runs_are_known kind lawful (all_asked x y z) end.book end.last came;
        }

    list_happens : (how : Return) → Asked kind how x y x × Asked kind how x y y
    list_happens how = (as_asked how x (machine old_pair Unmounted []) old_comes, as_asked how y (machine new_pair Unmounted []) new_comes)

pub a_list_happens : {R : Type 0} (kind : Kind R) → Lawful kind → AListHappens kind
a_list_happens kind lawful how x y = list_happens kind lawful x y how

pub a_history_happens : {R : Type 0} (kind : Kind R) → Lawful kind → AHistoryHappens kind
a_history_happens kind lawful x y = history kind lawful x y
