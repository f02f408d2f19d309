-- A store of 32 places and one block that stands at a call boundary, and the calls that it can then perform. Assumes nothing.
use Rattle.std.proofs.Common.{◌≡◌, ℕ, ◌+◌, ◌-◌, ◌<◌, ◌≤◌, true, false, eqb, ltb, List, [], ◌∷◌, ◌++◌, length, replicate, None, Option, sym, refl, ap, ◌∙◌, subst, inl, inr, arith}
use Rattle.std.proofs.lemmas.Bool.{cond-true, cond-false, cases_Bool, and_parts, eqb-true, le-ltb}
use Rattle.refusal.specs.declared.reason.Refusal.{Refusal}
use Rattle.refusal.specs.declared.reason.Refusal.TheVariants.{NoSuchRecord, RingFull}
use Rattle.crash.specs.Runs.{done}
use Rattle.crash.specs.Pair.{Pair, Act, is_dark, PerformedPair, settling_both}
use Rattle.ringlaws.specs.Layout.{records_of, used}
use Rattle.ringlaws.specs.TxnInfo.{Transaction, member, all_zero}
use Rattle.ringlaws.specs.Spells.{Fair}
use Rattle.ringlaws.specs.Newest.{setting_of, lay}
use Rattle.calls.specs.declared.state.State.TheVariants.{Unmounted, Idle, Open}
use Rattle.calls.specs.declared.call.Call.TheVariants.{Mount, Begin, Set, Read, Commit}
use Rattle.calls.specs.declared.answer.Answer.TheVariants.{Done, Used, Blocks, Absent, Found}
use Rattle.calls.specs.Table.{table}
use Rattle.calls.specs.Acts.{commit_acts, checkpoint_acts, named_blocks}
use Rattle.calls.specs.Plans.{Kind, Plan, table_of, refusing, put, set_refusal, is_full, read_by, read_unit, set_by, plan_of}
use Rattle.calls.specs.Steps.{Step, went, Went}
use Rattle.calllaws.specs.Holds.{Keeps}
use Rattle.calllaws.specs.CommitLaw.{CommitComesTo}
use Rattle.calllaws.proofs.Commits.{commits_are_atomic}
use Rattle.calllaws.proofs.Mounts.{mounts_keep_the_table}
use Rattle.order.proofs.Own.{Own, own, own_places, own_blocks, own_words, own_sectors, places_is, blocks_is, ring_is}
use Rattle.order.proofs.Performed.{stays_lit}
use Rattle.book.specs.Commits.{Fate, done as whole, places_taken, WholeAndInOrder}
use Rattle.book.specs.Promise.{Lawful}
use Rattle.book.proofs.Goods.{Readable, good_none, good_fair, put_good, lay_readable}
use Rattle.book.proofs.Follows.{commit_takes}
use Rattle.book.proofs.Went.{machine, used_is, mount_plan_is}
use Rattle.histories.proofs.Performing.{made_by, accepted_performs}

-- record 5 set to a unit
abbrev pub five : List ℕ → Transaction
five u = record { number = 5; unit = u } ∷ []

zeros : (u : List ℕ) → all_zero u ≡ true → u ≡ replicate (length u) 0
unfolding all_zero
zeros [] h = refl
zeros (x ∷ u) h = let (a, b) = and_parts (eqb x 0) (all_zero u) h in λ i. eqb-true x 0 a i ∷ zeros u b i

module _ {R : Type 0} (kind : Kind R) (lawful : Lawful kind) where
  nonzero : (x : R) → all_zero (kind.unit x) ≡ false
  nonzero x = elim (cases_Bool (all_zero (kind.unit x))) [
    | inl e ↦ absurd (lawful.nonzero x (zeros (kind.unit x) e ∙ ap (λ (n : ℕ). replicate n 0) (lawful.whole x)))
    | inr e ↦ e
  ]

  -- the unit of a record is found as that record
  pub found : (x : R) → read_unit kind (kind.unit x) ≡ Found x
  found x = cond-false (all_zero (kind.unit x)) Absent (read_by (kind.reads (kind.unit x))) (nonzero x) ∙ ap read_by (lawful.back x)

  pub five_fair : (x : R) → Fair 1 (five (kind.unit x))
  unfolding put member
  five_fair x =
      good_fair kind lawful 1 (record { number = 5; unit = kind.unit x }) [] (put_good kind 1 [] 5 (kind.unit x) (good_none kind 1) refl refl (inr (x, refl)))

  -- devices with power that keep this ring and these units, which are readable and come of commits
  pub record Stands (d : Pair) (ts : List Transaction) (units : ℕ → List ℕ) : Type 0 where
    pub lit : is_dark d ≡ false
    pub keeps : Keeps 32 1 d ts units
    pub readable : (r : ℕ) → Readable kind (units r)
    pub cs : List (Fate × Transaction)
    pub commits : WholeAndInOrder 1 cs units

  module _ (d : Pair) (ts : List Transaction) (units : ℕ → List ℕ) (s : Stands d ts units) where
    pub here : Own d ts units
    here = own 32 1 d ts units s.keeps

    -- by the devices' own sizes is by 32 and 1
    pub by_size : (p : Pair) (us : List Transaction) (x : ℕ → List ℕ) → Keeps (own_places d) (own_blocks d) p us x → Keeps 32 1 p us x
    by_size p us x h =
        subst (λ (n : ℕ). Keeps n 1 p us x) (places_is 32 1 d ts units s.keeps)
        (subst (λ (b : ℕ). Keeps (own_places d) b p us x) (blocks_is 32 1 d ts units s.keeps) h)

    -- the devices after a performed call, and the step
    pub record Mounts : Type 0 where
      pub after : Pair
      pub step : Step kind (machine d Unmounted []) Mount (Blocks (named_blocks 1 ts)) (machine after Idle [])
      pub stands : Stands after [] units

    pub mounts : Mounts
    mounts =
        let acts : List Act = settling_both (own_places d + 1) ++ checkpoint_acts (own_blocks d) (own_words d) ts (own_sectors d) in
        let law = mounts_keep_the_table (own_places d) (own_blocks d) (own_words d) (own_sectors d) ts units d here.ready here.holds in
        let p : Pair = made_by acts d in
        let ran : PerformedPair d acts p = accepted_performs acts d s.lit law.accepts in
        let is = mount_plan_is kind lawful 32 1 d ts units s.keeps s.lit s.readable Unmounted [] s.cs ts (λ h. refl) (good_none kind 1) s.commits in
        record {
          after = p;
          step = went (subst (λ (plan : Plan R). Went plan (machine d Unmounted []) (Blocks (named_blocks 1 ts)) (machine p Idle [])) (sym is)
              (record {
                before = s.lit;
                says = ap (λ (b : ℕ). Blocks (named_blocks b ts)) (sym (blocks_is 32 1 d ts units s.keeps));
                acts = ran;
                state = refl;
                list = refl;
              }));
          stands = record {
            lit = stays_lit acts d p s.lit ran;
            keeps = by_size p [] units (law.whole p ran);
            readable = s.readable;
            cs = s.cs;
            commits = s.commits;
          };
        }

    pub begins : Step kind (machine d Idle []) Begin Done (machine d Open [])
    begins = went (record { before = s.lit; says = refl; acts = done; state = refl; list = refl })

    may_set : set_refusal (own_blocks d) [] 5 ≡ None
    unfolding member
    may_set = ap (λ (b : ℕ). set_refusal b [] 5) (blocks_is 32 1 d ts units s.keeps)

    pub sets : (x : R) → Step kind (machine d Open []) (Set 5 x) Done (machine d Open (five (kind.unit x)))
    unfolding put
    sets x =
        went (subst (λ (o : Option Refusal). Went (set_by kind (machine d Open []) o 5 (kind.unit x)) (machine d Open []) Done (machine d Open (five (kind.unit x)))) (sym may_set)
        (record { before = s.lit; says = refl; acts = done; state = refl; list = refl }))

    pub table_here : (r : ℕ) → r < 16 → table_of (machine d Idle []) r ≡ units r
    table_here r lt =
        ap (λ (x : List Transaction). table x (own_sectors d) r) (ring_is d ts units here)
        ∙ here.holds.same r (subst (λ (b : ℕ). r < records_of b) (sym (blocks_is 32 1 d ts units s.keeps)) (omega arith))

    pub reads : (x : R) → units 5 ≡ kind.unit x → Step kind (machine d Idle []) (Read 5) (Found x) (machine d Idle [])
    unfolding setting_of
    reads x e =
        let is = cond-true (ltb 5 (records_of (own_blocks d)))
        (record { acts = []; answer = read_unit kind (lay [] (table_of (machine d Idle [])) 5); state = Idle; list = [] }) (refusing (machine d Idle []) NoSuchRecord)
        (ap (λ (b : ℕ). ltb 5 (records_of b)) (blocks_is 32 1 d ts units s.keeps))
        in
        went (subst (λ (plan : Plan R). Went plan (machine d Idle []) (Found x) (machine d Idle [])) (sym is)
        (record {
          before = s.lit;
          says = sym (ap (read_unit kind) (table_here 5 (omega arith) ∙ e) ∙ found x);
          acts = done;
          state = refl;
          list = refl;
        }))

    -- a commit of record 5, where at most two places are taken
    module _ (few : places_taken ts ≤ 2) (x : R) where
      pub room : is_full (own_places d) (own_words d) (five (kind.unit x)) ≡ false
      room =
          let n = places_is 32 1 d ts units s.keeps in
          let u = used_is (own_places d) (own_blocks d) (own_words d) ts here.holds.spells in
          le-ltb (own_places d - 1) (used (own_places d) (own_words d) + 2) (omega arith)

      pub commit_law : CommitComesTo (own_places d) (own_blocks d) (own_words d) ts units (five (kind.unit x)) d
      commit_law =
          commits_are_atomic (own_places d) (own_blocks d) (own_words d) (own_sectors d) ts units (five (kind.unit x)) d here.ready here.holds
          (subst (λ (b : ℕ). Fair b (five (kind.unit x))) (sym (blocks_is 32 1 d ts units s.keeps)) (five_fair x)) room

      -- the plan of the commit
      abbrev pub committing : Plan R
      committing = record {
        acts = commit_acts (own_places d) (own_words d) (five (kind.unit x));
        answer = Used (used (own_places d) (own_words d) + 2);
        state = Idle;
        list = [];
      }

      pub commit_is : plan_of kind (machine d Open (five (kind.unit x))) Commit ≡ committing
      commit_is = cond-false (is_full (own_places d) (own_words d) (five (kind.unit x))) (refusing (machine d Open (five (kind.unit x))) RingFull) committing room

      -- devices that keep the ring with the commit stand
      pub stands_then : (p : Pair) → is_dark p ≡ false → Keeps 32 1 p (ts ++ five (kind.unit x) ∷ []) (lay (five (kind.unit x)) units)
          → Stands p (ts ++ five (kind.unit x) ∷ []) (lay (five (kind.unit x)) units)
      stands_then p lit keeps = record {
        lit = lit;
        keeps = keeps;
        readable = lay_readable kind lawful (five (kind.unit x)) units (inr (x, refl), tt) s.readable;
        cs = s.cs ++ (whole, five (kind.unit x)) ∷ [];
        commits = commit_takes 1 whole (five (kind.unit x)) s.cs units s.commits;
      }

      pub record Commits : Type 0 where
        pub after : Pair
        pub step : Step kind (machine d Open (five (kind.unit x))) Commit (Used (places_taken ts + 2)) (machine after Idle [])
        pub stands : Stands after (ts ++ five (kind.unit x) ∷ []) (lay (five (kind.unit x)) units)

      pub commits : Commits
      commits =
          let p : Pair = made_by committing.acts d in
          let ran : PerformedPair d committing.acts p = accepted_performs committing.acts d s.lit commit_law.accepts in
          record {
            after = p;
            step = went (subst (λ (plan : Plan R). Went plan (machine d Open (five (kind.unit x))) (Used (places_taken ts + 2)) (machine p Idle [])) (sym commit_is)
                (record {
                  before = s.lit;
                  says = ap (λ (u : ℕ). Used (u + 2)) (sym (used_is (own_places d) (own_blocks d) (own_words d) ts here.holds.spells));
                  acts = ran;
                  state = refl;
                  list = refl;
                }));
            stands = stands_then p (stays_lit committing.acts d p s.lit ran)
                (by_size p (ts ++ five (kind.unit x) ∷ []) (lay (five (kind.unit x)) units) (commit_law.whole p ran));
          }
