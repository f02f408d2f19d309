-- A call that goes by its plan: its answer is right by the book, and the book follows.
use Rattle.std.proofs.Common.{◌≡◌, ℕ, zero, suc, ◌+◌, ◌-◌, ◌<◌, ◌≤◌, Bool, true, false, cond, not, ◌&&◌, ◌||◌, eqb, ltb, leb, ◌⊎◌, List, [], ◌∷◌, ◌++◌, length, Some, None, Option, unwrap_or, sym, refl, ap, ◌∙◌, subst, inl, inr, arith, length-append}
use Rattle.std.proofs.lemmas.Bool.{cond-true, cond-false, cases_Bool, eq-eqb, lt-ltb, le-leb, le-ltb, ltb-true, both_ways, and_from, and_parts}
use Rattle.refusal.specs.declared.reason.Refusal.{Refusal}
use Rattle.refusal.specs.declared.reason.Refusal.TheVariants.{Dark, NoSuchRecord, TooManyRecords, RingFull, Mounted, NotMounted, AlreadyOpen, NotOpen, BadSize, BadHeader, NoGroundMark}
use Rattle.refusal.specs.Numbers.{number_of}
use Rattle.device.specs.Words.{nvm_rules}
use Rattle.device.specs.Sectors.{disk_rules}
use Rattle.crash.specs.Pair.{Pair, Act, is_dark, PerformedPair, settling_both}
use Rattle.ringlaws.specs.declared.setting.Setting.{Setting}
use Rattle.ringlaws.specs.Layout.{records_of, head_of, tail_of, used, ground_word, ground_mark, places_word, blocks_word, least_places, most_places, most_blocks}
use Rattle.ringlaws.specs.TxnInfo.{Transaction, taken, info_length, all_zero}
use Rattle.ringlaws.specs.Spells.{Spells, Fair, AllFair, units_of, written}
use Rattle.ringlaws.specs.Sound.{spelled, bad_at, step_back}
use Rattle.ringlaws.specs.Newest.{setting_of, lay, laid}
use Rattle.ringlaws.proofs.Back.{sound_exactly_if_spelled, every_word_comes_back}
use Rattle.ringlaws.proofs.Units.{units_of_long}
use Rattle.calls.specs.declared.state.State.{State}
use Rattle.calls.specs.declared.state.State.TheVariants.{Unmounted, Idle, Open}
use Rattle.calls.specs.declared.call.Call.{Call}
use Rattle.calls.specs.declared.call.Call.TheVariants.{Format, Mount, Begin, Set, Clear, Read, Commit, Abandon, Checkpoint, Close}
use Rattle.calls.specs.declared.answer.Answer.{Answer}
use Rattle.calls.specs.declared.answer.Answer.TheVariants.{Refused, Done, Used, Blocks, Absent, Found}
use Rattle.calls.specs.Table.{ring_of, transactions_of, table, zero_unit}
use Rattle.calls.specs.Acts.{commit_acts, checkpoint_acts, named_blocks}
use Rattle.calls.specs.Judge.{judge}
use Rattle.calls.specs.Plans.{Machine, Kind, Plan, places_of, blocks_of, words, sectors, ring, table_of, refusing, fit_sizes, fit_header, damage, mount_refusal, put, may_put, set_refusal, is_full, added, read_by, read_unit, mount_by, mount_plan, set_by, set_plan, read_plan, commit_plan, checkpoint_plan, admitted, plan_by, plan_of}
use Rattle.calls.specs.Steps.{Went}
use Rattle.calllaws.specs.Holds.{Ready, Holds, Keeps}
use Rattle.calllaws.specs.CommitLaw.{CommitsAreAtomic}
use Rattle.calllaws.specs.CheckpointLaw.{CheckpointsKeepTheTable, MountsKeepTheTable, KeepsTheTable}
use Rattle.book.specs.Book.{Book, next, accepted, refused, book_read, read_in}
use Rattle.book.specs.Runs.{is_format}
use Rattle.book.specs.Commits.{Fate, done as whole, cutOff, Tally, tally_call, places_taken, and_nonempty, WholeAndInOrder, settings_after, lying_after, commits_after}
use Rattle.book.specs.Promise.{Lawful, Right, ByState, Expected, done_unless, no_room}
use Rattle.order.proofs.Own.{Own, own, own_places, own_blocks, own_words, own_sectors, places_is, blocks_is, ring_is}
use Rattle.order.proofs.Performed.{performed_none, stays_lit}
use Rattle.order.proofs.Settings.{set_passes}
use Rattle.book.proofs.Goods.{Readable, EachReadable, Good, good_none, put_good, good_fair, lay_readable}
use Rattle.book.proofs.Follows.{live, tallied, Live, Follows, lives, Owes, commit_takes}

-- the places that fair transactions take are the units that they are written as
taken_written : (B : ℕ) (ts : List Transaction) → AllFair B ts → places_taken ts ≡ length (written ts)
unfolding places_taken written
taken_written B [] f = refl
taken_written B ([] ∷ ts) f = let h = f.0.least in absurd (omega arith)
taken_written B ((s ∷ t) ∷ ts) f =
    let e = taken_written B ts f.1 in
    let a = length-append (units_of (s ∷ t)) (written ts) in
    let l = units_of_long (s ∷ t) in
    omega arith

pub used_is : (N B : ℕ) (c : ℕ → ℕ) (ts : List Transaction) → Spells N B c ts → used N c ≡ places_taken ts
used_is N B c ts s = sym (every_word_comes_back N B c (head_of c) (tail_of c) ts s).0 ∙ sym (taken_written B ts s.fair)

-- a fair transaction taken up into a list takes its places there
taken_push : (ts : List Transaction) (t : Transaction) → places_taken (ts ++ t ∷ []) ≡ places_taken ts + added t
unfolding places_taken
taken_push [] t = omega arith
taken_push (u ∷ ts) t = let e = taken_push ts t in omega arith

-- a machine from its parts
abbrev pub machine : Pair → State → Transaction → Machine
machine d s l = record { devices = d; state = s; list = l }

-- a refusal that is not 5 changes neither the book nor the tally
refused_next : {R : Type 0} (kind : Kind R) (b : Book) (call : Call R) (e : Refusal) → eqb (number_of e) 5 ≡ false → next kind b call (Refused e) ≡ b
refused_next kind b call e h = cond-false (eqb (number_of e) 5) _ b h

refused_tally : {R : Type 0} (kind : Kind R) (t : Tally) (call : Call R) (e : Refusal) → eqb (number_of e) 5 ≡ false → tally_call kind t call (Refused e) ≡ t
refused_tally kind t call e h =
    cond-false (eqb (number_of e) 5 && not t.dark) _ t (ap (λ (b : Bool). b && not t.dark) h)

-- neither does a read
read_next : {R : Type 0} (kind : Kind R) (b : Book) (r : ℕ) (z : Bool) (o : Option R) → next kind b (Read r) (cond z Absent (read_by o)) ≡ b
read_next kind b r true o = refl
read_next kind b r false None = refl
read_next kind b r false (Some x) = refl

read_tally : {R : Type 0} (kind : Kind R) (l : Transaction) (cs : List (Fate × Transaction)) (ly : List Transaction) (r : ℕ) (z : Bool) (o : Option R)
    → tally_call kind (tallied l cs ly) (Read r) (cond z Absent (read_by o)) ≡ tallied l cs ly
read_tally kind l cs ly r true o = refl
read_tally kind l cs ly r false None = refl
read_tally kind l cs ly r false (Some x) = refl

set_number : (B : ℕ) (l : Transaction) (r : ℕ) (e : Refusal) → set_refusal B l r ≡ Some e → eqb (number_of e) 5 ≡ false
set_number B l r e h = go (ltb r (records_of B)) (may_put l r) h
  where
    go : (x y : Bool) → cond x (cond y None (Some TooManyRecords)) (Some NoSuchRecord) ≡ Some e → eqb (number_of e) 5 ≡ false
    go true true h = let z : ◌≡◌ {A = ℕ} 0 1 = cc in absurd (omega arith)
    go true false h = let z : TooManyRecords ≡ e = cc in ap (λ (x : Refusal). eqb (number_of x) 5) (sym z)
    go false y h = let z : NoSuchRecord ≡ e = cc in ap (λ (x : Refusal). eqb (number_of x) 5) (sym z)

lay_none : (units : ℕ → List ℕ) → lay [] units ≡ units
unfolding setting_of
lay_none units = refl

pub idle_mounted : Idle ≡ Unmounted → ⊥
idle_mounted e = let z : ◌≡◌ {A = ℕ} 0 1 = cc in omega arith

pub open_mounted : Open ≡ Unmounted → ⊥
open_mounted e = let z : ◌≡◌ {A = ℕ} 0 1 = cc in omega arith

module _ {R : Type 0} (kind : Kind R) (lawful : Lawful kind) (N B : ℕ) where
  -- a machine that keeps the units of a book with power follows it
  pub follow : (n : Machine) (units : ℕ → List ℕ) (s : State) (l : Transaction) (ts : List Transaction) (cs : List (Fate × Transaction)) (ly : List Transaction)
      → is_dark n.devices ≡ false → n.state ≡ s → n.list ≡ l → Keeps N B n.devices ts units → ((s ≡ Unmounted → ⊥) → ts ≡ ly) → Good kind B l
      → ((r : ℕ) → Readable kind (units r)) → WholeAndInOrder B cs units → Follows kind N B n (live units s l) (tallied l cs ly)
  follow n units s l ts cs ly lit p q keeps lying good readable commits =
      lives (record {
        lit = lit;
        units = units;
        book = λ i. live units (sym p i) (sym q i);
        ring = ts;
        keeps = keeps;
        cs = cs;
        ly = ly;
        tally = λ i. tallied (sym q i) cs ly;
        lying = λ h. lying (λ e. h (p ∙ e));
        good = subst (Good kind B) (sym q) good;
        readable = readable;
        commits = commits;
      })

  -- on devices that keep these transactions and units
  module _ (d : Pair) (ts : List Transaction) (units : ℕ → List ℕ) (k : Keeps N B d ts units) (lit : is_dark d ≡ false) (readable : (r : ℕ) → Readable kind (units r)) where
    o : Own d ts units
    o = own N B d ts units k

    -- and with settings and a tally that go with them
    module _ (s : State) (l : Transaction) (cs : List (Fate × Transaction)) (ly : List Transaction) (lying : (s ≡ Unmounted → ⊥) → ts ≡ ly) (good : Good kind B l) (commits : WholeAndInOrder B cs units) where
      abbrev Owed : Call R → Machine → Answer R → Type 0
      Owed call n a = Owes kind N B (machine d s l) (live units s l) (tallied l cs ly) call n a

      -- a plan without acts that leaves the units as they are
      quietly : (s' : State) (l' : Transaction) (a a₀ : Answer R) (n : Machine) (call : Call R)
          → Went (record { acts = []; answer = a₀; state = s'; list = l' }) (machine d s l) a n
          → Right kind (own_places d) (own_blocks d) (live units s l) ly call a₀
          → next kind (live units s l) call a₀ ≡ live units s' l'
          → tally_call kind (tallied l cs ly) call a₀ ≡ tallied l' cs ly
          → ((s' ≡ Unmounted → ⊥) → ts ≡ ly) → Good kind B l' → Owed call n a
      quietly s' l' a a₀ n call w right book tally lying' good' =
          let same : n.devices ≡ d = performed_none w.acts in
          subst (Owed call n) (sym w.says) (
            right,
            subst (λ (b : Book). Follows kind N B n b (tally_call kind (tallied l cs ly) call a₀)) (sym book)
                (subst (Follows kind N B n (live units s' l')) (sym tally)
                (follow n units s' l' ts cs ly (ap is_dark same ∙ lit) w.state w.list (subst (λ (p : Pair). Keeps N B p ts units) (sym same) k) lying' good' readable commits)),
          )

      -- a refusal
      refuses : (a : Answer R) (n : Machine) (call : Call R) (e : Refusal) → eqb (number_of e) 5 ≡ false
          → Went (refusing (machine d s l) e) (machine d s l) a n → Right kind (own_places d) (own_blocks d) (live units s l) ly call (Refused e) → Owed call n a
      refuses a n call e h w right =
          quietly s l a (Refused e) n call w right (refused_next kind (live units s l) call e h) (refused_tally kind (tallied l cs ly) call e h) lying good

      -- set and clear, in an open transaction
      sets : (u : List ℕ) → Readable kind u → (a : Answer R) (n : Machine) (call : Call R) (r : ℕ)
          → next kind (live units s l) call Done ≡ live units s (put l r u)
          → tally_call kind (tallied l cs ly) call Done ≡ tallied (put l r u) cs ly
          → ((x : Answer R) → x ≡ done_unless (set_refusal (own_blocks d) l r) → Right kind (own_places d) (own_blocks d) (live units s l) ly call x)
          → Went (set_plan kind (machine d s l) r u) (machine d s l) a n → Owed call n a
      sets u read a n call r book tally right w = go (set_refusal (own_blocks d) l r) refl w
        where
          go : (x : Option Refusal) → set_refusal (own_blocks d) l r ≡ x → Went (set_by kind (machine d s l) x r u) (machine d s l) a n → Owed call n a
          go (Some e) h w = refuses a n call e (set_number (own_blocks d) l r e h) w (right (Refused e) (ap done_unless (sym h)))
          go None h w =
              let p = set_passes B l r (ap (λ (b : ℕ). set_refusal b l r) (sym (blocks_is N B d ts units k)) ∙ h) in
              quietly s (put l r u) a Done n call w (right Done (ap done_unless (sym h))) book tally lying (put_good kind B l r u good p.0 p.1 read)

      -- a read, where the store is mounted
      reads : (a : Answer R) (n : Machine) (r : ℕ)
          → ((x : Answer R) → x ≡ cond (ltb r (records_of (own_blocks d))) (read_unit kind (lay l units r)) (Refused NoSuchRecord) → Right kind (own_places d) (own_blocks d) (live units s l) ly (Read r) x)
          → Went (read_plan kind (machine d s l) r) (machine d s l) a n → Owed (Read r) n a
      reads a n r right w = go (ltb r (records_of (own_blocks d))) refl w
        where
          go : (x : Bool) → ltb r (records_of (own_blocks d)) ≡ x
              → Went (cond x (record { acts = []; answer = read_unit kind (lay l (table_of (machine d s l)) r); state = s; list = l }) (refusing (machine d s l) NoSuchRecord)) (machine d s l) a n
              → Owed (Read r) n a
          go false h w =
              refuses a n (Read r) NoSuchRecord refl w (right (Refused NoSuchRecord) (sym (cond-false (ltb r (records_of (own_blocks d))) (read_unit kind (lay l units r)) (Refused NoSuchRecord) h)))
          go true h w =
              let z : table_of (machine d s l) r ≡ units r =
              ap (λ (x : List Transaction). table x (own_sectors d) r) (ring_is d ts units o) ∙ o.holds.same r (ltb-true r (records_of (own_blocks d)) h) in
              let y : read_unit kind (lay l (table_of (machine d s l)) r) ≡ read_unit kind (lay l units r) = ap (λ (v : List ℕ). read_unit kind (unwrap_or (setting_of l r) v)) z in
              quietly s l a (read_unit kind (lay l (table_of (machine d s l)) r)) n (Read r) w
              (right (read_unit kind (lay l (table_of (machine d s l)) r)) (y ∙ sym (cond-true (ltb r (records_of (own_blocks d))) (read_unit kind (lay l units r)) (Refused NoSuchRecord) h)))
              (read_next kind (live units s l) r (all_zero (lay l (table_of (machine d s l)) r)) (kind.reads (lay l (table_of (machine d s l)) r)))
              (read_tally kind l cs ly r (all_zero (lay l (table_of (machine d s l)) r)) (kind.reads (lay l (table_of (machine d s l)) r))) lying good

      -- the acts of a checkpoint, or of a mount: the ring is empty then, and the units are as they were
      empties : (acts : List Act) (s' : State) (a a₀ : Answer R) (n : Machine) (call : Call R)
          → KeepsTheTable (own_places d) (own_blocks d) units acts d
          → Went (record { acts = acts; answer = a₀; state = s'; list = l }) (machine d s l) a n
          → Right kind (own_places d) (own_blocks d) (live units s l) ly call a₀
          → next kind (live units s l) call a₀ ≡ live units s' l
          → tally_call kind (tallied l cs ly) call a₀ ≡ tallied l cs []
          → Owed call n a
      empties acts s' a a₀ n call law w right book tally =
          subst (Owed call n) (sym w.says) (
            right,
            subst (λ (b : Book). Follows kind N B n b (tally_call kind (tallied l cs ly) call a₀)) (sym book)
                (subst (Follows kind N B n (live units s' l)) (sym tally)
                (follow n units s' l [] cs [] (stays_lit acts d n.devices lit w.acts) w.state w.list
                (subst (λ (x : ℕ). Keeps x B n.devices [] units) (places_is N B d ts units k)
                (subst (λ (y : ℕ). Keeps (own_places d) y n.devices [] units) (blocks_is N B d ts units k) (law.whole n.devices w.acts)))
                (λ h. refl) good readable commits)),
          )

      -- a checkpoint, where the store is mounted, and its answer
      checkpoints_to : CheckpointsKeepTheTable → (s' : State) (a a₀ : Answer R) (n : Machine) (call : Call R)
          → Went (checkpoint_plan kind (machine d s l) a₀ s') (machine d s l) a n
          → Right kind (own_places d) (own_blocks d) (live units s l) ly call a₀
          → next kind (live units s l) call a₀ ≡ live units s' l
          → tally_call kind (tallied l cs ly) call a₀ ≡ tallied l cs []
          → Owed call n a
      checkpoints_to law s' a a₀ n call w right book tally =
          empties (checkpoint_acts (own_blocks d) (own_words d) ts (own_sectors d)) s' a a₀ n call
          (law (own_places d) (own_blocks d) (own_words d) (own_sectors d) ts units d o.ready o.holds)
          (subst (λ (x : List Transaction). Went (record { acts = checkpoint_acts (own_blocks d) (own_words d) x (own_sectors d); answer = a₀; state = s'; list = l }) (machine d s l) a n) (ring_is d ts units o) w)
          right book tally

      pub fits : fit_sizes d.nvm.size (own_blocks d) ≡ true
      fits =
          let g = o.ready in
          let least : least_places < d.nvm.size = omega arith in
          let most : d.nvm.size ≤ most_places + 1 = omega arith in
          and_from (ltb least_places d.nvm.size && leb d.nvm.size (most_places + 1)) (leb 1 (own_blocks d) && leb (own_blocks d) most_blocks)
          (and_from (ltb least_places d.nvm.size) (leb d.nvm.size (most_places + 1)) (lt-ltb least_places d.nvm.size least) (le-leb d.nvm.size (most_places + 1) most))
          (and_from (leb 1 (own_blocks d)) (leb (own_blocks d) most_blocks) (le-leb 1 (own_blocks d) g.some) (le-leb (own_blocks d) most_blocks g.few))

      header : fit_header (own_places d) (own_blocks d) (own_words d) ≡ true
      header =
          let h = o.holds in
          and_from (eqb (own_words d places_word) (own_places d) && eqb (own_words d blocks_word) (own_blocks d)) (ltb (head_of (own_words d)) (own_places d) && ltb (tail_of (own_words d)) (own_places d))
          (and_from (eqb (own_words d places_word) (own_places d)) (eqb (own_words d blocks_word) (own_blocks d)) (eq-eqb (own_words d places_word) (own_places d) h.places) (eq-eqb (own_words d blocks_word) (own_blocks d) h.blocks))
          (and_from (ltb (head_of (own_words d)) (own_places d)) (ltb (tail_of (own_words d)) (own_places d)) (lt-ltb (head_of (own_words d)) (own_places d) h.head) (lt-ltb (tail_of (own_words d)) (own_places d) h.tail))

      unrefused : mount_refusal (own_places d) (own_blocks d) (own_words d) ≡ None
      unrefused =
          let h = o.holds in
          cond-true (eqb (own_words d ground_word) ground_mark)
          (cond (fit_header (own_places d) (own_blocks d) (own_words d)) (damage (step_back (own_places d) (own_blocks d) (own_words d) (head_of (own_words d)) (tail_of (own_words d)))) (Some BadHeader))
          (Some NoGroundMark) (eq-eqb (own_words d ground_word) ground_mark h.mark)
          ∙ cond-true (fit_header (own_places d) (own_blocks d) (own_words d)) (damage (step_back (own_places d) (own_blocks d) (own_words d) (head_of (own_words d)) (tail_of (own_words d)))) (Some BadHeader) header
          ∙ ap damage ((sound_exactly_if_spelled (own_places d) (own_blocks d) (own_words d) (head_of (own_words d)) (tail_of (own_words d)) h.head h.tail ts).1 h.spells)

      -- the plan of a mount on these devices
      abbrev mounting : Plan R
      mounting = record {
        acts = settling_both (own_places d + 1) ++ checkpoint_acts (own_blocks d) (own_words d) ts (own_sectors d);
        answer = Blocks (named_blocks (own_blocks d) ts);
        state = Idle;
        list = l;
      }

      pub mount_plan_is : mount_plan kind (machine d s l) ≡ mounting
      mount_plan_is =
          let size : d.nvm.size ≡ own_places d + 1 = let g = o.ready.units in g in
          cond-true (fit_sizes d.nvm.size (own_blocks d)) (mount_by kind (machine d s l) (mount_refusal (own_places d) (own_blocks d) (own_words d))) (refusing (machine d s l) BadSize) fits
          ∙ ap (mount_by kind (machine d s l)) unrefused
          ∙ ap (λ (u : ℕ). record {
            acts = settling_both u ++ checkpoint_acts (own_blocks d) (own_words d) (ring_of (own_places d) (own_blocks d) (own_words d)) (own_sectors d);
            answer = Blocks (named_blocks (own_blocks d) (ring_of (own_places d) (own_blocks d) (own_words d)));
            state = Idle;
            list = l;
          }) size
          ∙ ap (λ (x : List Transaction). record {
            acts = settling_both (own_places d + 1) ++ checkpoint_acts (own_blocks d) (own_words d) x (own_sectors d);
            answer = Blocks (named_blocks (own_blocks d) x);
            state = Idle;
            list = l;
          }) (ring_is d ts units o)

      used_here : (s ≡ Unmounted → ⊥) → used (own_places d) (own_words d) ≡ places_taken ly
      used_here mounted = used_is (own_places d) (own_blocks d) (own_words d) ts o.holds.spells ∙ ap places_taken (lying mounted)

      pub full_is : (s ≡ Unmounted → ⊥) → (t : Transaction) → is_full (own_places d) (own_words d) t ≡ no_room (own_places d) ly t
      full_is mounted [] = refl
      full_is mounted (x ∷ t) =
          let e = used_here mounted in
          let some : 0 < length (x ∷ t) = omega arith in
          ap (λ (u : ℕ). ltb (own_places d - 1) (u + taken (length (x ∷ t)))) e
          ∙ sym (ap (λ (b : Bool). b && ltb (own_places d - 1) (places_taken ly + taken (length (x ∷ t)))) (lt-ltb 0 (length (x ∷ t)) some))

      -- the ring after a commit, by the settings
      committed : CommitsAreAtomic → (s ≡ Unmounted → ⊥) → (n : Machine) (t : Transaction) → Good kind B t → is_full (own_places d) (own_words d) t ≡ false
          → PerformedPair d (commit_acts (own_places d) (own_words d) t) n.devices
          → (us : List Transaction) × Keeps N B n.devices us (lay t units) × (us ≡ and_nonempty ly t)
      committed law mounted n [] g f p =
          (ts, subst (λ (q : Pair). Keeps N B q ts (lay [] units)) (sym (performed_none p)) (subst (Keeps N B d ts) (sym (lay_none units)) k), lying mounted)
      committed law mounted n (x ∷ t) g f p = (
        ts ++ (x ∷ t) ∷ [],
        subst (λ (y : ℕ). Keeps y B n.devices (ts ++ (x ∷ t) ∷ []) (lay (x ∷ t) units)) (places_is N B d ts units k)
            (subst (λ (y : ℕ). Keeps (own_places d) y n.devices (ts ++ (x ∷ t) ∷ []) (lay (x ∷ t) units)) (blocks_is N B d ts units k)
            ((law (own_places d) (own_blocks d) (own_words d) (own_sectors d) ts units (x ∷ t) d o.ready o.holds
            (subst (λ (b : ℕ). Fair b (x ∷ t)) (sym (blocks_is N B d ts units k)) (good_fair kind lawful B x t g)) f).whole n.devices p)),
        ap (λ (us : List Transaction). us ++ (x ∷ t) ∷ []) (lying mounted),
      )

      -- a commit, where a transaction is open
      commits_to : CommitsAreAtomic → (s ≡ Unmounted → ⊥) → (a : Answer R) (n : Machine)
          → ((x : Answer R) → x ≡ cond (no_room (own_places d) ly l) (Refused RingFull) (Used (places_taken ly + added l)) → Right kind (own_places d) (own_blocks d) (live units s l) ly Commit x)
          → Went (commit_plan kind (machine d s l)) (machine d s l) a n → Owed Commit n a
      commits_to law mounted a n right w = go (is_full (own_places d) (own_words d) l) refl w
        where
          a₁ : Answer R
          a₁ = Used (used (own_places d) (own_words d) + added l)

          go : (x : Bool) → is_full (own_places d) (own_words d) l ≡ x
              → Went (cond x (refusing (machine d s l) RingFull) (record { acts = commit_acts (own_places d) (own_words d) l; answer = Used (used (own_places d) (own_words d) + added l); state = Idle; list = [] })) (machine d s l) a n
              → Owed Commit n a
          go true h w =
              refuses a n Commit RingFull refl w
              (right (Refused RingFull) (sym (cond-true (no_room (own_places d) ly l) (Refused RingFull) (Used (places_taken ly + added l)) (sym (full_is mounted l) ∙ h))))
          go false h w =
              let c = committed law mounted n l good h w.acts in
              subst (Owed Commit n) (sym w.says) (
                right (Used (used (own_places d) (own_words d) + added l))
                    (ap (λ (u : ℕ). Used (u + added l)) (used_here mounted)
                    ∙ sym (cond-false (no_room (own_places d) ly l) (Refused RingFull) (Used (places_taken ly + added l)) (sym (full_is mounted l) ∙ h))),
                follow n (lay l units) Idle [] c.0 (cs ++ (whole, l) ∷ []) (and_nonempty ly l)
                    (stays_lit (commit_acts (own_places d) (own_words d) l) d n.devices lit w.acts) w.state w.list c.1 (λ e. c.2) (good_none kind B)
                    (lay_readable kind lawful l units good.readable readable) (commit_takes B whole l cs units commits),
              )

    -- every call that goes by its plan, by state and call
    module _ (commit_law : CommitsAreAtomic) (checkpoint-law : CheckpointsKeepTheTable) (mount-law : MountsKeepTheTable) (l : Transaction) (cs : List (Fate × Transaction)) (ly : List Transaction) (good : Good kind B l) (commits : WholeAndInOrder B cs units) where
      abbrev Goes : State → Call R → Type 0
      Goes s call = (lying : (s ≡ Unmounted → ⊥) → ts ≡ ly) (a : Answer R) (n : Machine)
          → Went (plan_of kind (machine d s l) call) (machine d s l) a n → Owes kind N B (machine d s l) (live units s l) (tallied l cs ly) call n a

      went_unmounted : (call : Call R) → is_format call ≡ false → Goes Unmounted call
      went_unmounted Format f lying a n w = absurd (both_ways true f refl)
      went_unmounted Mount f lying a n w =
          empties Unmounted l cs ly lying good commits (settling_both (own_places d + 1) ++ checkpoint_acts (own_blocks d) (own_words d) ts (own_sectors d)) Idle a (Blocks (named_blocks (own_blocks d) ts)) n Mount
          (mount-law (own_places d) (own_blocks d) (own_words d) (own_sectors d) ts units d o.ready o.holds)
          (subst (λ (p : Plan R). Went p (machine d Unmounted l) a n) (mount_plan_is Unmounted l cs ly lying good commits) w)
          (inr (inl (refl, (named_blocks (own_blocks d) ts, refl)))) refl refl
      went_unmounted Begin f lying a n w = refuses Unmounted l cs ly lying good commits a n Begin NotMounted refl w (inr (inl (refl, refl)))
      went_unmounted (Set r x) f lying a n w = refuses Unmounted l cs ly lying good commits a n (Set r x) NotMounted refl w (inr (inl (refl, refl)))
      went_unmounted (Clear r) f lying a n w = refuses Unmounted l cs ly lying good commits a n (Clear r) NotMounted refl w (inr (inl (refl, refl)))
      went_unmounted (Read r) f lying a n w = refuses Unmounted l cs ly lying good commits a n (Read r) NotMounted refl w (inr (inl (refl, refl)))
      went_unmounted Commit f lying a n w = refuses Unmounted l cs ly lying good commits a n Commit NotMounted refl w (inr (inl (refl, refl)))
      went_unmounted Abandon f lying a n w = refuses Unmounted l cs ly lying good commits a n Abandon NotMounted refl w (inr (inl (refl, refl)))
      went_unmounted Checkpoint f lying a n w = refuses Unmounted l cs ly lying good commits a n Checkpoint NotMounted refl w (inr (inl (refl, refl)))
      went_unmounted Close f lying a n w = refuses Unmounted l cs ly lying good commits a n Close NotMounted refl w (inr (inl (refl, refl)))

      went_idle : (call : Call R) → is_format call ≡ false → Goes Idle call
      went_idle Format f lying a n w = absurd (both_ways true f refl)
      went_idle Mount f lying a n w = refuses Idle l cs ly lying good commits a n Mount Mounted refl w (inr (inl (refl, refl)))
      went_idle Begin f lying a n w = quietly Idle l cs ly lying good commits Open l a Done n Begin w (inr (inl (refl, refl))) refl refl (λ e. lying idle_mounted) good
      went_idle (Set r x) f lying a n w = refuses Idle l cs ly lying good commits a n (Set r x) NotOpen refl w (inr (inl (refl, refl)))
      went_idle (Clear r) f lying a n w = refuses Idle l cs ly lying good commits a n (Clear r) NotOpen refl w (inr (inl (refl, refl)))
      went_idle (Read r) f lying a n w = reads Idle l cs ly lying good commits a n r (λ x e. inr (inl (refl, e))) w
      went_idle Commit f lying a n w = refuses Idle l cs ly lying good commits a n Commit NotOpen refl w (inr (inl (refl, refl)))
      went_idle Abandon f lying a n w = refuses Idle l cs ly lying good commits a n Abandon NotOpen refl w (inr (inl (refl, refl)))
      went_idle Checkpoint f lying a n w =
          checkpoints_to Idle l cs ly lying good commits checkpoint-law Idle a (Blocks (named_blocks (own_blocks d) (ring_of (own_places d) (own_blocks d) (own_words d)))) n Checkpoint w
          (inr (inl (refl, ap (λ (x : List Transaction). Blocks (named_blocks (own_blocks d) x)) (ring_is d ts units o ∙ lying idle_mounted)))) refl refl
      went_idle Close f lying a n w = checkpoints_to Idle l cs ly lying good commits checkpoint-law Unmounted a Done n Close w (inr (inl (refl, refl))) refl refl

      went_open : (call : Call R) → is_format call ≡ false → Goes Open call
      went_open Format f lying a n w = absurd (both_ways true f refl)
      went_open Mount f lying a n w = refuses Open l cs ly lying good commits a n Mount Mounted refl w (inr (inl (refl, refl)))
      went_open Begin f lying a n w = refuses Open l cs ly lying good commits a n Begin AlreadyOpen refl w (inr (inl (refl, refl)))
      went_open (Set r x) f lying a n w = sets Open l cs ly lying good commits (kind.unit x) (inr (x, refl)) a n (Set r x) r refl refl (λ y e. inr (inl (refl, e))) w
      went_open (Clear r) f lying a n w = sets Open l cs ly lying good commits zero_unit (inl refl) a n (Clear r) r refl refl (λ y e. inr (inl (refl, e))) w
      went_open (Read r) f lying a n w = reads Open l cs ly lying good commits a n r (λ x e. inr (inl (refl, e))) w
      went_open Commit f lying a n w = commits_to Open l cs ly lying good commits commit_law open_mounted a n (λ x e. inr (inl (refl, e))) w
      went_open Abandon f lying a n w = quietly Open l cs ly lying good commits Idle [] a Done n Abandon w (inr (inl (refl, refl))) refl refl (λ e. lying open_mounted) (good_none kind B)
      went_open Checkpoint f lying a n w =
          checkpoints_to Open l cs ly lying good commits checkpoint-law Open a (Blocks (named_blocks (own_blocks d) (ring_of (own_places d) (own_blocks d) (own_words d)))) n Checkpoint w
          (inr (inl (refl, ap (λ (x : List Transaction). Blocks (named_blocks (own_blocks d) x)) (ring_is d ts units o ∙ lying open_mounted)))) refl refl
      went_open Close f lying a n w = refuses Open l cs ly lying good commits a n Close AlreadyOpen refl w (inr (inl (refl, refl)))

      pub went_step : (s : State) (call : Call R) → is_format call ≡ false → Goes s call
      went_step Unmounted = went_unmounted
      went_step Idle = went_idle
      went_step Open = went_open
