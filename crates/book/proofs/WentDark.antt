-- A call that is cut by power: its answer is 5, and whatever comes back is the book's, with or without a cut commit.
use Rattle.std.proofs.Common.{◌≡◌, ℕ, ◌+◌, ◌<◌, Bool, true, false, cond, not, ltb, ◌⊎◌, List, [], ◌∷◌, ◌++◌, length, Some, None, Option, sym, refl, ap, ◌∙◌, subst, inl, inr, arith}
use Rattle.std.proofs.lemmas.Bool.{both_ways, and_from, lt-ltb}
use Rattle.refusal.specs.declared.reason.Refusal.{Refusal}
use Rattle.refusal.specs.declared.reason.Refusal.TheVariants.{Dark, NoSuchRecord, RingFull}
use Rattle.device.specs.Sectors.{disk_rules}
use Rattle.crash.specs.Pair.{Pair, Act, is_dark, CutPair, PairRestarted, settling_both}
use Rattle.crash.proofs.Runs.{stopped_none}
use Rattle.crash.proofs.Follow.{begun_size}
use Rattle.crash.proofs.Pairs.{cuts_part}
use Rattle.ringlaws.specs.Layout.{records_of, used}
use Rattle.ringlaws.specs.TxnInfo.{Transaction}
use Rattle.ringlaws.specs.Spells.{Fair}
use Rattle.ringlaws.specs.Newest.{lay}
use Rattle.calls.specs.declared.state.State.{State}
use Rattle.calls.specs.declared.state.State.TheVariants.{Unmounted, Idle, Open}
use Rattle.calls.specs.declared.call.Call.{Call}
use Rattle.calls.specs.declared.call.Call.TheVariants.{Format, Mount, Begin, Set, Clear, Read, Commit, Abandon, Checkpoint, Close}
use Rattle.calls.specs.declared.answer.Answer.{Answer}
use Rattle.calls.specs.declared.answer.Answer.TheVariants.{Refused, Done, Used, Blocks}
use Rattle.calls.specs.Table.{ring_of, zero_unit}
use Rattle.calls.specs.Acts.{commit_acts, checkpoint_acts, named_blocks}
use Rattle.calls.specs.Judge.{judge}
use Rattle.calls.specs.Plans.{Machine, Kind, Plan, table_of, refusing, set_refusal, is_full, added, read_unit, set_by, set_plan, read_plan, commit_plan, checkpoint_plan, plan_of}
use Rattle.calls.specs.Steps.{WentDark}
use Rattle.calllaws.specs.Holds.{Keeps}
use Rattle.calllaws.specs.CommitLaw.{CommitsAreAtomic}
use Rattle.calllaws.specs.CheckpointLaw.{CheckpointsKeepTheTable, MountsKeepTheTable, KeepsTheTable}
use Rattle.book.specs.Book.{is_commit}
use Rattle.book.specs.Runs.{is_format}
use Rattle.book.specs.Commits.{Fate, cutOff, WholeAndInOrder}
use Rattle.book.specs.Promise.{Lawful, makes_acts, no_room}
use Rattle.order.proofs.Own.{Own, own, own_places, own_blocks, own_words, own_sectors, places_is, blocks_is, ring_is}
use Rattle.book.proofs.Goods.{Readable, Good, good_fair}
use Rattle.book.proofs.Follows.{live, tallied, gone, Owes, commit_takes, commit_leaves}
use Rattle.book.proofs.Went.{machine, mount_plan_is, full_is, idle_mounted, open_mounted}

-- what may come back: the units as they were, or after a cut commit with its settings laid over
abbrev Returning : ℕ → ℕ → (ℕ → List ℕ) → Transaction → Bool → Pair → Type 0
Returning N B units l cut d =
    (p : Pair) → PairRestarted d p → (ts : List Transaction) × (Keeps N B p ts units ⊎ ((cut ≡ true) × Keeps N B p ts (lay l units)))

module _ {R : Type 0} (kind : Kind R) (lawful : Lawful kind) (N B : ℕ) (d : Pair) (ts : List Transaction) (units : ℕ → List ℕ) (k : Keeps N B d ts units) (lit : is_dark d ≡ false)
    (readable : (r : ℕ) → Readable kind (units r)) (l : Transaction) (cs : List (Fate × Transaction)) (ly : List Transaction) (good : Good kind B l) (commits : WholeAndInOrder B cs units) where
  here : Own d ts units
  here = own N B d ts units k

  abbrev Owed : State → Call R → Machine → Answer R → Type 0
  Owed s call n a = Owes kind N B (machine d s l) (live units s l) (tallied l cs ly) call n a

  cut_blocks : (acts : List Act) (n : Pair) → CutPair d acts n → n.disk.size ≡ B
  cut_blocks acts n c = begun_size disk_rules (cuts_part acts d n c).2 ∙ blocks_is N B d ts units k

  -- a commit that is cut is counted as cut, any other call is not counted
  counted : (c : Bool) → WholeAndInOrder B (cond c (cs ++ (cutOff, l) ∷ []) cs) units
  counted true = commit_leaves B l cs units commits
  counted false = commits

  counted_with : (c : Bool) → c ≡ true → WholeAndInOrder B (cond c (cs ++ (cutOff, l) ∷ []) cs) (lay l units)
  counted_with true e = commit_takes B cutOff l cs units commits
  counted_with false e = absurd (both_ways false refl e)

  -- a call whose acts were cut
  dies : (s : State) (call : Call R) (a : Answer R) (n : Machine) (acts : List Act) → judge s call ≡ None → makes_acts (own_places d) (live units s l) ly call ≡ true → a ≡ Refused Dark
      → CutPair d acts n.devices → Returning N B units l (is_commit call) n.devices → Owed s call n a
  dies s call a n acts j m says cut back =
      subst (Owed s call n) (sym says) (
        inr (inr (refl, j, m, refl)),
        gone (record {
          out = (cuts_part acts d n.devices cut).0;
          book = refl;
          blocks = cut_blocks acts n.devices cut;
          back = back;
          good = good.readable;
          readable = readable;
          dark = refl;
          without = counted (is_commit call);
          with_it = counted_with (is_commit call);
        }),
      )

  -- a plan without acts is never cut
  never : (s : State) (call : Call R) (a : Answer R) (n : Machine) → CutPair d [] n.devices → Owed s call n a
  never s call a n c = absurd (stopped_none c)

  -- a checkpoint or a mount that is cut
  keeps_back : (acts : List Act) (n : Pair) (cut : Bool) → KeepsTheTable (own_places d) (own_blocks d) units acts d → CutPair d acts n → Returning N B units l cut n
  keeps_back acts n cut law c p r =
      let (us, kept) = law.cut n p c r in (
        us,
        inl (subst (λ (x : ℕ). Keeps x B p us units) (places_is N B d ts units k)
            (subst (λ (y : ℕ). Keeps (own_places d) y p us units) (blocks_is N B d ts units k) kept)),
      )

  -- a cut needs an act, so there are transactions to write home
  some_lie : (us : List Transaction) (n : Pair) → CutPair d (checkpoint_acts (own_blocks d) (own_words d) us (own_sectors d)) n → ltb 0 (length us) ≡ true
  some_lie [] n c = absurd (stopped_none c)
  some_lie (t ∷ us) n c = let some : 0 < length (t ∷ us) = omega arith in lt-ltb 0 (length (t ∷ us)) some

  checkpoint_dies : CheckpointsKeepTheTable → ts ≡ ly → (s : State) (call : Call R) (a a₀ : Answer R) (s' : State) (n : Machine) → judge s call ≡ None
      → (ltb 0 (length ly) ≡ true → makes_acts (own_places d) (live units s l) ly call ≡ true)
      → WentDark (checkpoint_plan kind (machine d s l) a₀ s') (machine d s l) a n → Owed s call n a
  checkpoint_dies law e s call a a₀ s' n j m w =
      let acts : List Act = checkpoint_acts (own_blocks d) (own_words d) ts (own_sectors d) in
      let cut : CutPair d acts n.devices =
      subst (λ (x : List Transaction). CutPair d (checkpoint_acts (own_blocks d) (own_words d) x (own_sectors d)) n.devices) (ring_is d ts units here) w.acts in
      dies s call a n acts j (m (ap (λ (x : List Transaction). ltb 0 (length x)) (sym e) ∙ some_lie ts n.devices cut)) w.says cut
      (keeps_back acts n.devices (is_commit call) (law (own_places d) (own_blocks d) (own_words d) (own_sectors d) ts units d here.ready here.holds) cut)

  set_dies : (s : State) (call : Call R) (a : Answer R) (n : Machine) (r : ℕ) (u : List ℕ) → WentDark (set_plan kind (machine d s l) r u) (machine d s l) a n → Owed s call n a
  set_dies s call a n r u w = go (set_refusal (own_blocks d) l r) w
    where
      go : (x : Option Refusal) → WentDark (set_by kind (machine d s l) x r u) (machine d s l) a n → Owed s call n a
      go (Some e) w = never s call a n w.acts
      go None w = never s call a n w.acts

  read_dies : (s : State) (a : Answer R) (n : Machine) (r : ℕ) → WentDark (read_plan kind (machine d s l) r) (machine d s l) a n → Owed s (Read r) n a
  read_dies s a n r w = go (ltb r (records_of (own_blocks d))) w
    where
      go : (x : Bool)
          → WentDark (cond x (record { acts = []; answer = read_unit kind (lay l (table_of (machine d s l)) r); state = s; list = l }) (refusing (machine d s l) NoSuchRecord)) (machine d s l) a n
          → Owed s (Read r) n a
      go true w = never s (Read r) a n w.acts
      go false w = never s (Read r) a n w.acts

  commit_back : CommitsAreAtomic → (n : Pair) → is_full (own_places d) (own_words d) l ≡ false → CutPair d (commit_acts (own_places d) (own_words d) l) n → Returning N B units l true n
  commit_back law n room c = go l good room c
    where
      go : (t : Transaction) → Good kind B t → is_full (own_places d) (own_words d) t ≡ false → CutPair d (commit_acts (own_places d) (own_words d) t) n → Returning N B units t true n
      go [] g f c p r = absurd (stopped_none c)
      go (x ∷ t) g f c p r =
          let fair : Fair (own_blocks d) (x ∷ t) = subst (λ (b : ℕ). Fair b (x ∷ t)) (sym (blocks_is N B d ts units k)) (good_fair kind lawful B x t g) in
          let z = (law (own_places d) (own_blocks d) (own_words d) (own_sectors d) ts units (x ∷ t) d here.ready here.holds fair f).cut n p c r in
          elim z [
            | inl old ↦ (
              ts,
              inl (subst (λ (y : ℕ). Keeps y B p ts units) (places_is N B d ts units k)
                  (subst (λ (y : ℕ). Keeps (own_places d) y p ts units) (blocks_is N B d ts units k) old)),
            )
            | inr new ↦ (
              ts ++ (x ∷ t) ∷ [],
              inr (
                refl,
                subst (λ (y : ℕ). Keeps y B p (ts ++ (x ∷ t) ∷ []) (lay (x ∷ t) units)) (places_is N B d ts units k)
                    (subst (λ (y : ℕ). Keeps (own_places d) y p (ts ++ (x ∷ t) ∷ []) (lay (x ∷ t) units)) (blocks_is N B d ts units k) new),
              ),
            )
          ]

  -- a cut needs an act, so there are settings to commit
  some_set : (t : Transaction) (n : Pair) → CutPair d (commit_acts (own_places d) (own_words d) t) n → ltb 0 (length t) ≡ true
  some_set [] n c = absurd (stopped_none c)
  some_set (x ∷ t) n c = let some : 0 < length (x ∷ t) = omega arith in lt-ltb 0 (length (x ∷ t)) some

  commit_dies : CommitsAreAtomic → ts ≡ ly → (a : Answer R) (n : Machine) → WentDark (commit_plan kind (machine d Open l)) (machine d Open l) a n → Owed Open Commit n a
  commit_dies law e a n w = go (is_full (own_places d) (own_words d) l) refl w
    where
      go : (x : Bool) → is_full (own_places d) (own_words d) l ≡ x
          → WentDark (cond x (refusing (machine d Open l) RingFull) (record { acts = commit_acts (own_places d) (own_words d) l; answer = Used (used (own_places d) (own_words d) + added l); state = Idle; list = [] })) (machine d Open l) a n
          → Owed Open Commit n a
      go true h w = never Open Commit a n w.acts
      go false h w =
          let room : no_room (own_places d) ly l ≡ false = sym (full_is kind lawful N B d ts units k lit readable Open l cs ly (λ _. e) good commits open_mounted l) ∙ h in
          dies Open Commit a n (commit_acts (own_places d) (own_words d) l) refl
          (and_from (ltb 0 (length l)) (not (no_room (own_places d) ly l)) (some_set l n.devices w.acts) (ap not room))
          w.says w.acts (commit_back law n.devices h w.acts)

  mount_dies : MountsKeepTheTable → (a : Answer R) (n : Machine) → WentDark (plan_of kind (machine d Unmounted l) Mount) (machine d Unmounted l) a n → Owed Unmounted Mount n a
  mount_dies law a n w =
      let acts : List Act = settling_both (own_places d + 1) ++ checkpoint_acts (own_blocks d) (own_words d) ts (own_sectors d) in
      let cut : CutPair d acts n.devices =
      subst (λ (p : Plan R). CutPair d p.acts n.devices) (mount_plan_is kind lawful N B d ts units k lit readable Unmounted l cs ly (λ h. absurd (h refl)) good commits) w.acts in
      dies Unmounted Mount a n acts refl refl w.says cut
      (keeps_back acts n.devices false (law (own_places d) (own_blocks d) (own_words d) (own_sectors d) ts units d here.ready here.holds) cut)

  module _ (commit_law : CommitsAreAtomic) (checkpoint-law : CheckpointsKeepTheTable) (mount-law : MountsKeepTheTable) where
    abbrev Dies : State → Call R → Type 0
    Dies s call = ((s ≡ Unmounted → ⊥) → ts ≡ ly) → (a : Answer R) (n : Machine) → WentDark (plan_of kind (machine d s l) call) (machine d s l) a n → Owed s call n a

    pub died : (s : State) (call : Call R) → is_format call ≡ false → Dies s call
    died s Format f y a n w = absurd (both_ways true f refl)
    died Unmounted Mount f y a n w = mount_dies mount-law a n w
    died Unmounted Begin f y a n w = never Unmounted Begin a n w.acts
    died Unmounted (Set r x) f y a n w = never Unmounted (Set r x) a n w.acts
    died Unmounted (Clear r) f y a n w = never Unmounted (Clear r) a n w.acts
    died Unmounted (Read r) f y a n w = never Unmounted (Read r) a n w.acts
    died Unmounted Commit f y a n w = never Unmounted Commit a n w.acts
    died Unmounted Abandon f y a n w = never Unmounted Abandon a n w.acts
    died Unmounted Checkpoint f y a n w = never Unmounted Checkpoint a n w.acts
    died Unmounted Close f y a n w = never Unmounted Close a n w.acts
    died Idle Mount f y a n w = never Idle Mount a n w.acts
    died Idle Begin f y a n w = never Idle Begin a n w.acts
    died Idle (Set r x) f y a n w = never Idle (Set r x) a n w.acts
    died Idle (Clear r) f y a n w = never Idle (Clear r) a n w.acts
    died Idle (Read r) f y a n w = read_dies Idle a n r w
    died Idle Commit f y a n w = never Idle Commit a n w.acts
    died Idle Abandon f y a n w = never Idle Abandon a n w.acts
    died Idle Checkpoint f y a n w = checkpoint_dies checkpoint-law (y idle_mounted) Idle Checkpoint a (Blocks (named_blocks (own_blocks d) (ring_of (own_places d) (own_blocks d) (own_words d)))) Idle n refl (λ h. h) w
    died Idle Close f y a n w = checkpoint_dies checkpoint-law (y idle_mounted) Idle Close a Done Unmounted n refl (λ h. h) w
    died Open Mount f y a n w = never Open Mount a n w.acts
    died Open Begin f y a n w = never Open Begin a n w.acts
    died Open (Set r x) f y a n w = set_dies Open (Set r x) a n r (kind.unit x) w
    died Open (Clear r) f y a n w = set_dies Open (Clear r) a n r zero_unit w
    died Open (Read r) f y a n w = read_dies Open a n r w
    died Open Commit f y a n w = commit_dies commit_law (y open_mounted) a n w
    died Open Abandon f y a n w = never Open Abandon a n w.acts
    died Open Checkpoint f y a n w = checkpoint_dies checkpoint-law (y open_mounted) Open Checkpoint a (Blocks (named_blocks (own_blocks d) (ring_of (own_places d) (own_blocks d) (own_words d)))) Open n refl (λ h. h) w
    died Open Close f y a n w = never Open Close a n w.acts
