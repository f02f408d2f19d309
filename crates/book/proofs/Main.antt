-- Every run, from an accepted format on, keeps the book.
use Rattle.std.proofs.Common.{◌≡◌, ℕ, zero, suc, ◌+◌, ◌-◌, ◌<◌, ◌≤◌, Bool, true, false, cond, not, ◌&&◌, ◌||◌, ltb, leb, ◌⊎◌, List, [], ◌∷◌, ◌++◌, Some, None, Option, sym, refl, ap, ◌∙◌, subst, inl, inr, arith}
use Rattle.std.specs.Str.{bytes_eq}
use Rattle.std.proofs.lemmas.Bool.{cond-true, cond-false, both_ways, cases_Bool, cases_eq, and_parts, and_from, and_left, and_right, ltb-true, leb-true}
use Rattle.std.proofs.lemmas.Slice.Eq.{bytes_eq-Decides}
use Rattle.refusal.specs.declared.reason.Refusal.{Refusal}
use Rattle.refusal.specs.declared.reason.Refusal.TheVariants.{Dark, NotMounted, NoSuchRecord, ForeignUnit, Mounted, BadSize}
use Rattle.refusal.specs.Numbers.{number_of}
use Rattle.device.specs.Devices.{Restarted}
use Rattle.device.specs.Words.{nvm_rules, words_of}
use Rattle.device.specs.Sectors.{disk_rules, sectors_of}
use Rattle.crash.specs.Acts.{Rests, contents}
use Rattle.crash.specs.Pair.{Pair, is_dark, PairRestarted, PairRests, PerformedPair}
use Rattle.crash.proofs.Steps.{back_settled}
use Rattle.ringlaws.specs.Layout.{records_of, least_places, most_places, most_blocks}
use Rattle.ringlaws.specs.TxnInfo.{Transaction}
use Rattle.ringlaws.specs.Newest.{lay, laid}
use Rattle.calls.specs.declared.state.State.{State}
use Rattle.calls.specs.declared.state.State.TheVariants.{Unmounted, Idle, Open}
use Rattle.calls.specs.declared.call.Call.{Call}
use Rattle.calls.specs.declared.call.Call.TheVariants.{Format, Mount, Begin, Set, Clear, Read, Commit, Abandon, Checkpoint, Close}
use Rattle.calls.specs.declared.answer.Answer.{Answer}
use Rattle.calls.specs.declared.answer.Answer.TheVariants.{Refused, Done, Blocks}
use Rattle.calls.specs.Table.{table, zero_unit}
use Rattle.calls.specs.Acts.{format_acts}
use Rattle.calls.specs.Judge.{judge}
use Rattle.calls.specs.Plans.{Machine, Kind, Plan, places_of, blocks_of, table_of, read_unit, fit_sizes, refusing, plan_of}
use Rattle.calls.specs.Steps.{Step, was_dark, went, went_dark, Went, MachineRestarted}
use Rattle.calllaws.specs.Holds.{Ready, Holds, Keeps}
use Rattle.calllaws.specs.FormatLaw.{AnyContents}
use Rattle.calllaws.proofs.Commits.{commits_are_atomic}
use Rattle.calllaws.proofs.Checkpoints.{checkpoints_keep_the_table}
use Rattle.calllaws.proofs.Mounts.{mounts_keep_the_table}
use Rattle.calllaws.proofs.Formats.{formats_make_an_empty_store}
use Rattle.order.specs.Order.{EndsThere}
use Rattle.book.specs.Book.{Book, blank, next, restarted, is_commit, book_read, read_in}
use Rattle.book.specs.Runs.{Event, called, restart, Run, start, asked, returned, is_format, is_kept, same_below}
use Rattle.book.specs.Commits.{Fate, cutOff, commits_after, Tally, no_tally, tally_call, tally_event, tally_from, tally, Kept, none, WholeAndInOrder}
use Rattle.book.specs.Promise.{Lawful, ByState, Right, Promised, EveryRunKeepsTheBook}
use Rattle.order.proofs.Own.{own, blocks_is, ring_is}
use Rattle.order.proofs.Performed.{stays_lit}
use Rattle.book.proofs.Goods.{Readable, EachReadable, Good, good_none, lay_readable, never_foreign}
use Rattle.book.proofs.Follows.{live, tallied, Live, Gone, Follows, lives, gone, Owes}
use Rattle.book.proofs.Went.{follow, went_step}
use Rattle.book.proofs.WentDark.{died}
use Rattle.book.proofs.Formats.{format_right}

-- two tables that are the same below n
same_sound : (n : ℕ) (x y : ℕ → List ℕ) → same_below n x y ≡ true → (r : ℕ) → r < n → x r ≡ y r
unfolding same_below
same_sound zero x y h r lt = absurd (omega arith)
same_sound (suc n) x y h r lt =
    let p = and_parts (bytes_eq (x n) (y n)) (same_below n x y) h in
    elim (cases_eq r n) [
      | inl e ↦ subst (λ (k : ℕ). x k ≡ y k) (sym e) ((bytes_eq-Decides (x n) (y n)).0 p.0)
      | inr ne ↦ same_sound n x y p.1 r (omega arith)
    ]

same_full : (n : ℕ) (x y : ℕ → List ℕ) → ((r : ℕ) → r < n → x r ≡ y r) → same_below n x y ≡ true
unfolding same_below
same_full zero x y h = refl
same_full (suc n) x y h =
    and_from (bytes_eq (x n) (y n)) (same_below n x y) ((bytes_eq-Decides (x n) (y n)).1 (h n (omega arith))) (same_full n x y (λ r lt. h r (omega arith)))

-- the same contents hold any units that agree below 16 × B
keeps_same : (N B : ℕ) (d : Pair) (ts : List Transaction) (units other : ℕ → List ℕ) → ((r : ℕ) → r < records_of B → units r ≡ other r) → Keeps N B d ts units → Keeps N B d ts other
keeps_same N B d ts units other e k =
    let h = k.holds in
    record {
      words = k.words;
      sectors = k.sectors;
      ready = k.ready;
      holds = record {
        mark = h.mark;
        places = h.places;
        blocks = h.blocks;
        head = h.head;
        tail = h.tail;
        spells = h.spells;
        same = λ r lt. h.same r lt ∙ e r lt;
      };
    }

-- settled devices come back as they are
keeps_back : (N B : ℕ) (d p : Pair) (ts : List Transaction) (units : ℕ → List ℕ) → Keeps N B d ts units → PairRestarted d p → Keeps N B p ts units
keeps_back N B d p ts units k r =
    let g = k.ready in
    record {
      words = k.words;
      sectors = k.sectors;
      ready = record {
        least = g.least;
        most = g.most;
        some = g.some;
        few = g.few;
        units = r.nvm.size ∙ g.units;
        blocks = r.disk.size ∙ g.blocks;
        rests = record {
          nvm = λ w. back_settled (k.words w) (g.rests.nvm w) (r.nvm.pieces w);
          disk = λ s. back_settled (k.sectors s) (g.rests.disk s) (r.disk.pieces s);
        };
      };
      holds = k.holds;
    }

module _ {R : Type 0} (kind : Kind R) (lawful : Lawful kind) (N B : ℕ) where
  dark_next : (b : Book) (call : Call R) → b.dark ≡ true → next kind b call (Refused Dark) ≡ b
  dark_next b call h = cond-true b.dark b (record { units = b.units; list = b.list; state = b.state; dark = true; cut = is_commit call }) h

  dark_tally : (t : Tally) (call : Call R) → t.dark ≡ true → tally_call kind t call (Refused Dark) ≡ t
  dark_tally t call h =
      cond-false (true && not t.dark) (record { running = t.running; dark = true; commits = commits_after cutOff t call; lying = t.lying }) t (ap not h)

  step : (m n : Machine) (b : Book) (t : Tally) (call : Call R) (a : Answer R) → is_format call ≡ false → Follows kind N B m b t → Step kind m call a n → Owes kind N B m b t call n a
  step m n b t call a f (lives v) (was_dark w) = absurd (both_ways (is_dark m.devices) v.lit w.before)
  step m n b t call a f (lives v) (went w) =
      subst (λ (x : Book). Owes kind N B m x t call n a) (sym v.book)
      (subst (λ (y : Tally). Owes kind N B m (live v.units m.state m.list) y call n a) (sym v.tally)
      (went_step kind lawful N B m.devices v.ring v.units v.keeps v.lit v.readable commits_are_atomic checkpoints_keep_the_table mounts_keep_the_table
      m.list v.cs v.ly v.good v.commits m.state call f v.lying a n w))
  step m n b t call a f (lives v) (went_dark w) =
      subst (λ (x : Book). Owes kind N B m x t call n a) (sym v.book)
      (subst (λ (y : Tally). Owes kind N B m (live v.units m.state m.list) y call n a) (sym v.tally)
      (died kind lawful N B m.devices v.ring v.units v.keeps v.lit v.readable
      m.list v.cs v.ly v.good v.commits commits_are_atomic checkpoints_keep_the_table mounts_keep_the_table m.state call f v.lying a n w))
  step m n b t call a f (gone v) (was_dark w) =
      subst (Owes kind N B m b t call n) (sym w.says) (
        inl (v.book, refl),
        subst (λ (x : Book). Follows kind N B n x (tally_call kind t call (Refused Dark))) (sym (dark_next b call v.book))
            (subst (Follows kind N B n b) (sym (dark_tally t call v.dark))
            (subst (λ (x : Machine). Follows kind N B x b t) (sym w.same) (gone v))),
      )
  step m n b t call a f (gone v) (went w) = absurd (both_ways (is_dark m.devices) w.before v.out)
  step m n b t call a f (gone v) (went_dark w) = absurd (both_ways (is_dark m.devices) w.before v.out)

  -- every call, a format too, is answered right
  right : (m n : Machine) (b : Book) (t : Tally) (call : Call R) (a : Answer R) → Follows kind N B m b t → Step kind m call a n
      → Right kind (places_of m) (blocks_of m) b t.lying call a
  right m n b t Format a f s = format_right kind lawful N B m n b t a f s
  right m n b t Mount a f s = (step m n b t Mount a refl f s).0
  right m n b t Begin a f s = (step m n b t Begin a refl f s).0
  right m n b t (Set r x) a f s = (step m n b t (Set r x) a refl f s).0
  right m n b t (Clear r) a f s = (step m n b t (Clear r) a refl f s).0
  right m n b t (Read r) a f s = (step m n b t (Read r) a refl f s).0
  right m n b t Commit a f s = (step m n b t Commit a refl f s).0
  right m n b t Abandon a f s = (step m n b t Abandon a refl f s).0
  right m n b t Checkpoint a f s = (step m n b t Checkpoint a refl f s).0
  right m n b t Close a f s = (step m n b t Close a refl f s).0

  -- the table of devices that keep these units
  table_is : (n : Machine) (ts : List Transaction) (units : ℕ → List ℕ) → Keeps N B n.devices ts units → (r : ℕ) → r < records_of (blocks_of n) → table_of n r ≡ units r
  table_is n ts units k r lt =
      let o = own N B n.devices ts units k in
      ap (λ (x : List Transaction). table x (sectors_of n.devices.disk) r) (ring_is n.devices ts units o) ∙ o.holds.same r lt

  -- What is known of a book when power returns to its machine, which is n then: the devices keep its units, or these with a cut
  -- commit's settings laid over.
  record Back (b : Book) (t : Tally) (n : Machine) : Type 0 where
    ts : List Transaction
    either : Keeps N B n.devices ts b.units ⊎ ((b.cut ≡ true) × Keeps N B n.devices ts (lay b.list b.units))
    good : EachReadable kind b.list
    readable : (r : ℕ) → Readable kind (b.units r)
    without : WholeAndInOrder B t.commits b.units
    with_it : b.cut ≡ true → WholeAndInOrder B t.commits (lay b.list b.units)

  comes_back : (m n : Machine) (b : Book) (t : Tally) → Follows kind N B m b t → MachineRestarted m n → Back b t n
  comes_back m n b t (lives v) r =
      let x : Book = live v.units m.state m.list in
      let y : Tally = tallied m.list v.cs v.ly in
      subst (λ (z : Book). Back z t n) (sym v.book)
      (subst (λ (z : Tally). Back x z n) (sym v.tally)
      (record {
        ts = v.ring;
        either = inl (keeps_back N B m.devices n.devices v.ring v.units v.keeps r.devices);
        good = v.good.readable;
        readable = v.readable;
        without = v.commits;
        with_it = λ e. absurd (both_ways false refl e);
      }))
  comes_back m n b t (gone v) r =
      let (ts, either) = v.back n.devices r.devices in
      record { ts = ts; either = either; good = v.good; readable = v.readable; without = v.without; with_it = v.with_it }

  lit_again : (n : Pair) (m : Pair) → PairRestarted m n → is_dark n ≡ false
  lit_again n m r = ap (λ (x : Bool). x || n.disk.dark) r.nvm.power ∙ r.disk.power

  restarts : (m n : Machine) (b : Book) (t : Tally) → Follows kind N B m b t → MachineRestarted m n → Follows kind N B n (restarted b (is_kept b n)) (tally_event kind t restart)
  restarts m n b t v r = decide b.cut (is_kept b n) refl refl
    where
      k : Back b t n
      k = comes_back m n b t v r

      laid_over : ℕ → List ℕ
      laid_over = lay b.list b.units

      as_it_was : Keeps N B n.devices k.ts b.units → Follows kind N B n (live b.units Unmounted []) (tallied [] t.commits t.lying)
      as_it_was held =
          follow kind lawful N B n b.units Unmounted [] k.ts t.commits t.lying (lit_again n.devices m.devices r.devices) r.state r.list held
          (λ h. absurd (h refl)) (good_none kind B) k.readable k.without

      with_commit : b.cut ≡ true → Keeps N B n.devices k.ts laid_over → Follows kind N B n (live laid_over Unmounted []) (tallied [] t.commits t.lying)
      with_commit c held =
          follow kind lawful N B n laid_over Unmounted [] k.ts t.commits t.lying (lit_again n.devices m.devices r.devices) r.state r.list held
          (λ h. absurd (h refl)) (good_none kind B) (lay_readable kind lawful b.list b.units k.good k.readable) (k.with_it c)

      old_kept : Keeps N B n.devices k.ts b.units ⊎ ((b.cut ≡ true) × Keeps N B n.devices k.ts laid_over) → is_kept b n ≡ true → Keeps N B n.devices k.ts laid_over
      old_kept (inl held) s =
          keeps_same N B n.devices k.ts b.units laid_over
          (λ i lt.
          let at : i < records_of (blocks_of n) = subst (λ (x : ℕ). i < records_of x) (sym (blocks_is N B n.devices k.ts b.units held)) lt in
          sym (table_is n k.ts b.units held i at) ∙ same_sound (records_of (blocks_of n)) (table_of n) laid_over s i at)
          held
      old_kept (inr held) s = held.1

      not_kept : Keeps N B n.devices k.ts b.units ⊎ ((b.cut ≡ true) × Keeps N B n.devices k.ts laid_over) → is_kept b n ≡ false → Keeps N B n.devices k.ts b.units
      not_kept (inl held) s = held
      not_kept (inr held) s =
          absurd (both_ways (is_kept b n) s (same_full (records_of (blocks_of n)) (table_of n) laid_over (λ i lt. table_is n k.ts laid_over held.1 i lt)))

      uncut : Keeps N B n.devices k.ts b.units ⊎ ((b.cut ≡ true) × Keeps N B n.devices k.ts laid_over) → b.cut ≡ false → Keeps N B n.devices k.ts b.units
      uncut (inl held) c = held
      uncut (inr held) c = absurd (both_ways b.cut c held.0)

      decide : (x y : Bool) → b.cut ≡ x → is_kept b n ≡ y → Follows kind N B n (restarted b (is_kept b n)) (tallied [] t.commits t.lying)
      decide true true c s =
          subst (λ (z : Bool). Follows kind N B n (live (cond z laid_over b.units) Unmounted []) (tallied [] t.commits t.lying)) (sym (and_from b.cut (is_kept b n) c s)) (with_commit c (old_kept k.either s))
      decide true false c s =
          subst (λ (z : Bool). Follows kind N B n (live (cond z laid_over b.units) Unmounted []) (tallied [] t.commits t.lying)) (sym (and_right b.cut (is_kept b n) s)) (as_it_was (not_kept k.either s))
      decide false y c s =
          subst (λ (z : Bool). Follows kind N B n (live (cond z laid_over b.units) Unmounted []) (tallied [] t.commits t.lying)) (sym (and_left b.cut (is_kept b n) c)) (as_it_was (uncut k.either c))

  -- the tally of one event more
  tally_more : (t : Tally) (es : List (Event R)) (e : Event R) → tally_from kind t (es ++ e ∷ []) ≡ tally_event kind (tally_from kind t es) e
  unfolding tally_from
  tally_more t [] e = refl
  tally_more t (x ∷ es) e = tally_more (tally_event kind t x) es e

  pub follows : (m₁ m : Machine) (b : Book) (es : List (Event R)) → Follows kind N B m₁ blank no_tally → Run kind m₁ blank es m b → Follows kind N B m b (tally kind es)
  unfolding tally_from
  follows m₁ m b es v start = v
  follows m₁ m b es v (asked {events} {m = x} {b = y} {call} {a} run f s) =
      subst (Follows kind N B m (next kind y call a)) (sym (tally_more no_tally events (called call a)))
      (step x m y (tally kind events) call a f (follows m₁ x y events v run) s).1
  follows m₁ m b es v (returned {events} {m = x} {b = y} run r) =
      subst (Follows kind N B m (restarted y (is_kept y m))) (sym (tally_more no_tally events restart))
      (restarts x m y (tally kind events) (follows m₁ x y events v run) r)

  -- no read of a book whose settings and units are readable meets a foreign unit
  readable_reads : (n : ℕ) (b : Book) → ((r : ℕ) → Readable kind (lay b.list b.units r)) → (r : ℕ) → book_read kind n b r ≡ Refused ForeignUnit → ⊥
  readable_reads n b h r e = if_dark b.dark b.state e
    where
      by_test : (x : Bool) → cond x (read_unit kind (lay b.list b.units r)) (Refused NoSuchRecord) ≡ Refused ForeignUnit → ⊥
      by_test true e = never_foreign kind lawful (lay b.list b.units r) (h r) e
      by_test false e = let z : ◌≡◌ {A = ℕ} 0 1 = cc in omega arith

      by_state : (s : State) → read_in kind n b s r ≡ Refused ForeignUnit → ⊥
      by_state Unmounted e = let z : ◌≡◌ {A = ℕ} 0 1 = cc in omega arith
      by_state Idle e = by_test (ltb r (records_of n)) e
      by_state Open e = by_test (ltb r (records_of n)) e

      if_dark : (x : Bool) (s : State) → cond x (Refused Dark) (read_in kind n b s r) ≡ Refused ForeignUnit → ⊥
      if_dark true s e = let z : ◌≡◌ {A = ℕ} 0 1 = cc in omega arith
      if_dark false s e = by_state s e

  -- an answer to a read that is right by the book is the book's
  right_read : (places blocks : ℕ) (b : Book) (ly : List Transaction) (r : ℕ) (a : Answer R) → Right kind places blocks b ly (Read r) a → a ≡ book_read kind blocks b r
  right_read places blocks b ly r a (inl p) = p.1 ∙ sym (cond-true b.dark (Refused Dark) (read_in kind blocks b b.state r) p.0)
  right_read places blocks b ly r a (inr (inl p)) = by_state b.state refl p.1
    where
      by_state : (s : State) → b.state ≡ s → ByState kind places blocks b ly (judge {R = R} s (Read r)) (Read r) a → a ≡ book_read kind blocks b r
      by_state Unmounted e x = x ∙ sym (cond-false b.dark (Refused Dark) (read_in kind blocks b b.state r) p.0 ∙ ap (λ (s : State). read_in kind blocks b s r) e)
      by_state Idle e x = x
      by_state Open e x = x
  right_read places blocks b ly r a (inr (inr p)) = absurd (both_ways false refl p.2)

  -- an answer to a mount that is right by an unmounted book accepts it or is 5
  right_mount : (places blocks : ℕ) (b : Book) (ly : List Transaction) (a : Answer R) → (b.dark ≡ false → b.state ≡ Unmounted) → Right kind places blocks b ly Mount a
      → ((k : ℕ) × (a ≡ Blocks k)) ⊎ (a ≡ Refused Dark)
  right_mount places blocks b ly a h (inl p) = inr p.1
  right_mount places blocks b ly a h (inr (inl p)) = inl (subst (λ (s : State). ByState kind places blocks b ly (judge {R = R} s Mount) Mount a) (h p.0) p.1)
  right_mount places blocks b ly a h (inr (inr p)) = inr p.3

  promised : (es : List (Event R)) (m : Machine) (b : Book) → Follows kind N B m b (tally kind es) → Promised kind es m b
  promised es m b (lives v) = record {
    answers = λ call a n f s. (step m n b (tally kind es) call a f (lives v) s).0;
    formats = λ a n s. right m n b (tally kind es) Format a (lives v) s;
    reads = λ r a n s. right_read (places_of m) (blocks_of m) b (tally kind es).lying r a (step m n b (tally kind es) (Read r) a refl (lives v) s).0;
    mounts = λ e a n s.
        right_mount (places_of m) (blocks_of m) b (tally kind es).lying a (λ _. ap (λ (x : Book). x.state) v.book ∙ e) (step m n b (tally kind es) Mount a refl (lives v) s).0;
    readable = readable_reads (blocks_of m) b
        (subst (λ (x : Book). (r : ℕ) → Readable kind (lay x.list x.units r)) (sym v.book) (lay_readable kind lawful m.list v.units v.good.readable v.readable));
    commits =
        subst (λ (n : ℕ). WholeAndInOrder n (tally kind es).commits b.units) (sym (blocks_is N B m.devices v.ring v.units v.keeps))
        (subst (λ (x : Book). WholeAndInOrder B (tally kind es).commits x.units) (sym v.book)
        (subst (λ (y : Tally). WholeAndInOrder B y.commits v.units) (sym v.tally) v.commits));
  }
  promised es m b (gone v) = record {
    answers = λ call a n f s. (step m n b (tally kind es) call a f (gone v) s).0;
    formats = λ a n s. right m n b (tally kind es) Format a (gone v) s;
    reads = λ r a n s. right_read (places_of m) (blocks_of m) b (tally kind es).lying r a (step m n b (tally kind es) (Read r) a refl (gone v) s).0;
    mounts = λ e a n s.
        right_mount (places_of m) (blocks_of m) b (tally kind es).lying a (λ d. absurd (both_ways b.dark d v.book)) (step m n b (tally kind es) Mount a refl (gone v) s).0;
    readable = readable_reads (blocks_of m) b (lay_readable kind lawful b.list b.units v.good v.readable);
    commits = subst (λ (n : ℕ). WholeAndInOrder n (tally kind es).commits b.units) (sym v.blocks) v.without;
  }

laid_nothing : (r : ℕ) → laid [] (λ _. zero_unit) r ≡ zero_unit
unfolding laid
laid_nothing r = refl

-- an accepted format leaves a machine that the blank book goes with
module _ {R : Type 0} (kind : Kind R) (lawful : Lawful kind) (m₀ m₁ : Machine) (ends : EndsThere m₀) where
  abbrev N : ℕ
  N = places_of m₀

  abbrev B : ℕ
  B = blocks_of m₀

  any_contents : fit_sizes m₀.devices.nvm.size B ≡ true → AnyContents N B m₀.devices
  any_contents h =
      let p = and_parts (ltb least_places m₀.devices.nvm.size && leb m₀.devices.nvm.size (most_places + 1)) (leb 1 B && leb B most_blocks) h in
      let q = and_parts (ltb least_places m₀.devices.nvm.size) (leb m₀.devices.nvm.size (most_places + 1)) p.0 in
      let r = and_parts (leb 1 B) (leb B most_blocks) p.1 in
      let least : least_places < m₀.devices.nvm.size = ltb-true least_places m₀.devices.nvm.size q.0 in
      let most : m₀.devices.nvm.size ≤ most_places + 1 = leb-true m₀.devices.nvm.size (most_places + 1) q.1 in
      record {
        least = omega arith;
        most = omega arith;
        some = leb-true 1 B r.0;
        few = leb-true B most_blocks r.1;
        units = omega arith;
        blocks = refl;
        words_end = ends.nvm;
        sectors_end = ends.disk;
      }

  formatted : is_dark m₀.devices ≡ false → fit_sizes m₀.devices.nvm.size B ≡ true → PerformedPair m₀.devices (format_acts N B) m₁.devices → m₁.state ≡ Unmounted → m₁.list ≡ []
      → Follows kind N B m₁ blank no_tally
  formatted lit h p s l =
      follow kind lawful N B m₁ (λ r. zero_unit) Unmounted [] [] [] [] (stays_lit (format_acts N B) m₀.devices m₁.devices lit p) s l
      ((formats_make_an_empty_store N B m₀.devices (any_contents h)).1 m₁.devices p) (λ e. refl) (good_none kind B) (λ r. inl refl)
      (record { there = []; kept = none; same = λ r lt. sym (laid_nothing r) })

  by_sizes : (x : Bool) → fit_sizes m₀.devices.nvm.size B ≡ x
      → Went (cond x (record { acts = format_acts N B; answer = Done; state = Unmounted; list = [] }) (refusing {R = R} (record { devices = m₀.devices; state = Unmounted; list = m₀.list }) BadSize)) m₀ Done m₁
      → Follows kind N B m₁ blank no_tally
  by_sizes true h w = formatted w.before h w.acts w.state w.list
  by_sizes false h w = let e = w.says in let z : ◌≡◌ {A = ℕ} 0 1 = cc in absurd (omega arith)

  by_state : (s : State) → m₀.state ≡ s → Went (plan_of kind (record { devices = m₀.devices; state = s; list = m₀.list }) Format) m₀ Done m₁ → Follows kind N B m₁ blank no_tally
  by_state Unmounted e w = by_sizes (fit_sizes m₀.devices.nvm.size B) refl w
  by_state Idle e w = let f = w.says in let z : ◌≡◌ {A = ℕ} 0 1 = cc in absurd (omega arith)
  by_state Open e w = let f = w.says in let z : ◌≡◌ {A = ℕ} 0 1 = cc in absurd (omega arith)

  pub begins : Step kind m₀ Format Done m₁ → Follows kind N B m₁ blank no_tally
  begins (was_dark w) = let f = w.says in let z : ◌≡◌ {A = ℕ} 0 1 = cc in absurd (omega arith)
  begins (went w) = by_state m₀.state refl w
  begins (went_dark w) = let f = w.says in let z : ◌≡◌ {A = ℕ} 0 1 = cc in absurd (omega arith)

-- the theorem
pub every_run_keeps_the_book : {R : Type 0} (kind : Kind R) → Lawful kind → EveryRunKeepsTheBook kind
every_run_keeps_the_book kind lawful m₀ m₁ ends format es m b run =
    promised kind lawful (places_of m₀) (blocks_of m₀) es m b
    (follows kind lawful (places_of m₀) (blocks_of m₀) m₁ m b es (begins kind lawful m₀ m₁ ends format) run)
