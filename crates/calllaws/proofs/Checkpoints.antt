-- A checkpoint, performed whole or cut, keeps the table. Assumes nothing.
use Rattle.std.proofs.Common.{◌≡◌, ℕ, ◌+◌, Bool, true, false, cond, eqb, ◌⊎◌, List, [], ◌∷◌, ◌++◌, map, sym, refl, ap, ◌∙◌, subst, inl, inr, le_refl, arith}
use Rattle.std.proofs.lemmas.Bool.Decides.{nat_tests}
use Rattle.device.specs.Words.{words_of, nvm_rules}
use Rattle.device.specs.Sectors.{Sync, sectors_of, disk_rules}
use Rattle.crash.specs.Runs.{done}
use Rattle.crash.specs.Acts.{Blend}
use Rattle.crash.specs.Keeping.{nvm_keeps, disk_keeps, Phase}
use Rattle.crash.specs.Rows.{sealing}
use Rattle.crash.specs.Pair.{Pair, Act, on_nvm, on_disk, PerformedPair, CutPair, PairRestarted}
use Rattle.crash.proofs.Runs.{stopped_split, stopped_none}
use Rattle.crash.proofs.Phases.{writes_are_a_phase, sealing_is_a_phase}
use Rattle.crash.proofs.PairPhases.{nvm_phase_blends, disk_phase_blends}
use Rattle.ringlaws.specs.Layout.{Contents, head_word, tail_of}
use Rattle.ringlaws.specs.TxnInfo.{Transaction}
use Rattle.ringlaws.specs.Newest.{laid}
use Rattle.ringlaws.proofs.Append.{empty_spells_nothing}
use Rattle.calls.specs.Table.{table, table_block, is_named}
use Rattle.calls.specs.Acts.{writing_homes, checkpoint_acts}
use Rattle.calllaws.specs.Holds.{Ready, Holds, Keeps}
use Rattle.calllaws.specs.CheckpointLaw.{KeepsTheTable, CheckpointsKeepTheTable}
use Rattle.calllaws.proofs.Writes.{writing_fits}
use Rattle.calllaws.proofs.Written.{homes_written, blended_table, written_table}
use Rattle.calllaws.proofs.Stages.{Stage, stage_then, stage_whole, stage_accepted, nvm_stage, disk_stage, performed_sizes, restarted_sizes, sizes_then, ready_again}

-- the words after the head has moved up to the tail
abbrev pub head_moved : Contents → Contents
head_moved c w = cond (eqb w head_word) (tail_of c) (c w)

-- what the contents hold, on another disk that the ring gives the same table on, and after the head has moved
holds_on : {N B : ℕ} {c : Contents} {e : ℕ → List ℕ} {ts : List Transaction} {units : ℕ → List ℕ} (x : ℕ → List ℕ) → Holds N B c e ts units
    → ((r : ℕ) → table ts x r ≡ table ts e r) → Holds N B c x ts units
holds_on x h same = record {
  mark = h.mark;
  places = h.places;
  blocks = h.blocks;
  head = h.head;
  tail = h.tail;
  spells = h.spells;
  same = λ r lt. same r ∙ h.same r lt;
}

holds_empty : {N B : ℕ} {c : Contents} {e : ℕ → List ℕ} {ts : List Transaction} {units : ℕ → List ℕ} → Holds N B c e ts units
    → Holds N B (head_moved c) (homes_written B ts e) [] units
unfolding laid
holds_empty {N} {B} {c} {e} {ts} h = record {
  mark = h.mark;
  places = h.places;
  blocks = h.blocks;
  head = h.tail;
  tail = h.tail;
  spells = empty_spells_nothing N B (head_moved c) h.tail refl;
  same = λ r lt. written_table B ts e h.spells.fair r lt ∙ h.same r lt;
}

-- contents by their words
pub same_words : {X : Type 0} (c d : ℕ → X) → ((w : ℕ) → d w ≡ c w) → d ≡ c
same_words c d h = λ i w. h w i

one_blend : {X : Type 0} (c x : ℕ → X) → Blend c c x → (w : ℕ) → x w ≡ c w
one_blend c x blend w = elim (blend w) [ inl h ↦ h | inr h ↦ h ]

-- the head is the old one or the new one, and no other word moves
moved_blend : (c x : Contents) → Blend c (head_moved c) x → (x ≡ c) ⊎ (x ≡ head_moved c)
moved_blend c x blend = by_head (blend head_word)
  where
    other : (w : ℕ) → eqb w head_word ≡ false → x w ≡ c w
    other w h = elim (blend w) [ inl q ↦ q | inr q ↦ q ∙ ap (λ t. cond t (tail_of c) (c w)) h ]

    by_head : (x head_word ≡ c head_word) ⊎ (x head_word ≡ tail_of c) → (x ≡ c) ⊎ (x ≡ head_moved c)
    by_head (inl q) = inl (same_words c x (λ w. by_word w (eqb w head_word) refl))
      where
        by_word : (w : ℕ) (t : Bool) → eqb w head_word ≡ t → x w ≡ c w
        by_word w true h = let e : w ≡ 8 = grind (arith, nat_tests) in ap x e ∙ q ∙ ap c (sym e)
        by_word w false h = other w h
    by_head (inr q) = inr (same_words (head_moved c) x (λ w. by_word w (eqb w head_word) refl))
      where
        by_word : (w : ℕ) (t : Bool) → eqb w head_word ≡ t → x w ≡ cond t (tail_of c) (c w)
        by_word w true h = let e : w ≡ 8 = grind (arith, nat_tests) in ap x e ∙ q
        by_word w false h = other w h

module _ (N B : ℕ) (c : Contents) (e : ℕ → List ℕ) (ts : List Transaction) where
  homes_phase : Phase disk_rules disk_keeps B e (writing_homes B ts e ++ Sync ∷ []) (homes_written B ts e)
  homes_phase = writes_are_a_phase B (writing_homes B ts e) e (writing_fits (is_named ts) (table_block (table ts e)) B B (le_refl B))

  head_phase : Phase nvm_rules nvm_keeps (N + 1) c (sealing head_word (tail_of c)) (head_moved c)
  head_phase = sealing_is_a_phase (N + 1) head_word (tail_of c) c (omega arith)

  abbrev acts : List Act
  acts = map on_disk (writing_homes B ts e ++ Sync ∷ []) ++ map on_nvm (sealing head_word (tail_of c))

  both_phases : Stage (N + 1) B c e acts (head_moved c) (homes_written B ts e)
  both_phases = stage_then (disk_stage homes_phase) (nvm_stage head_phase)

module _ {N B : ℕ} {c : Contents} {e : ℕ → List ℕ} {ts : List Transaction} {units : ℕ → List ℕ} {m : Pair} (ready : Ready N B c e m) (holds : Holds N B c e ts units) where
  -- cut while the homes are written: the ring is as it was
  cut_homes : (n p : Pair) → CutPair m (map on_disk (writing_homes B ts e ++ Sync ∷ [])) n → PairRestarted n p → Keeps N B p ts units
  cut_homes n p cut again =
      let back = disk_phase_blends c e (homes_written B ts e) (writing_homes B ts e ++ Sync ∷ []) m n p ready.rests (homes_phase N B c e ts).brings cut again in
      let old : c ≡ words_of p.nvm = sym (same_words c (words_of p.nvm) (one_blend c (words_of p.nvm) back.words)) in
      record {
        words = words_of p.nvm;
        sectors = sectors_of p.disk;
        ready = ready_again ready (restarted_sizes cut again) back.rests;
        holds = subst (λ (x : Contents). Holds N B x (sectors_of p.disk) ts units) old
            (holds_on (sectors_of p.disk) holds (blended_table B ts e holds.spells.fair (sectors_of p.disk) back.sectors));
      }

  -- cut while the head moves: the disk has the table, under the old ring and alone
  cut_head : (k n p : Pair) → PerformedPair m (map on_disk (writing_homes B ts e ++ Sync ∷ [])) k → CutPair k (map on_nvm (sealing head_word (tail_of c))) n → PairRestarted n p
      → (us : List Transaction) × Keeps N B p us units
  cut_head k n p ran cut again =
      let here = stage_whole {u = N + 1} (disk_stage (homes_phase N B c e ts)) ready.rests ran in
      let back = nvm_phase_blends c (head_moved c) (homes_written B ts e) (sealing head_word (tail_of c)) k n p here (head_phase N B c e ts).brings cut again in
      let new : homes_written B ts e ≡ sectors_of p.disk =
      sym (same_words (homes_written B ts e) (sectors_of p.disk) (one_blend (homes_written B ts e) (sectors_of p.disk) back.sectors))
      in
      let again-ready = ready_again ready (sizes_then (performed_sizes ran) (restarted_sizes cut again)) back.rests in
      elim (moved_blend c (words_of p.nvm) back.words) [
        | inl q ↦ (
          ts,
          record {
            words = words_of p.nvm;
            sectors = sectors_of p.disk;
            ready = again-ready;
            holds = subst (λ (x : Contents). Holds N B x (sectors_of p.disk) ts units) (sym q)
                (subst (λ (x : ℕ → List ℕ). Holds N B c x ts units) new (holds_on (homes_written B ts e) holds (blended_table B ts e holds.spells.fair (homes_written B ts e) (λ s. inr refl))));
          },
        )
        | inr q ↦ (
          [],
          record {
            words = words_of p.nvm;
            sectors = sectors_of p.disk;
            ready = again-ready;
            holds = subst (λ (x : Contents). Holds N B x (sectors_of p.disk) [] units) (sym q)
                (subst (λ (x : ℕ → List ℕ). Holds N B (head_moved c) x [] units) new (holds_empty holds));
          },
        )
      ]

  pub keeps_acts : KeepsTheTable N B units (acts N B c e ts) m
  keeps_acts = record {
    accepts = stage_accepted (both_phases N B c e ts) ready.units ready.blocks ready.rests;
    whole = λ n r. record {
      words = head_moved c;
      sectors = homes_written B ts e;
      ready = ready_again ready (performed_sizes r) (stage_whole (both_phases N B c e ts) ready.rests r);
      holds = holds_empty holds;
    };
    cut = λ n p k again. elim (stopped_split (map on_disk (writing_homes B ts e ++ Sync ∷ [])) (map on_nvm (sealing head_word (tail_of c))) k) [
      | inl first ↦ (ts, cut_homes n p first again)
      | inr (mid, ran, second) ↦ cut_head mid n p ran second again
    ];
  }

-- what a checkpoint leads to
abbrev pub checkpointed : ℕ → Contents → List Transaction → (ℕ → List ℕ) → Contents × (ℕ → List ℕ)
checkpointed B c [] e = (c, e)
checkpointed B c (t ∷ ts) e = (head_moved c, homes_written B (t ∷ ts) e)

pub checkpoint_stage : (N B : ℕ) (c : Contents) (ts : List Transaction) (e : ℕ → List ℕ)
    → Stage (N + 1) B c e (checkpoint_acts B c ts e) (checkpointed B c ts e).0 (checkpointed B c ts e).1
checkpoint_stage N B c [] e = record { words = λ w. refl; sectors = λ s. refl; stored = tt; written = tt }
checkpoint_stage N B c (t ∷ ts) e = both_phases N B c e (t ∷ ts)

-- an empty ring needs no act
keeps_nothing : {N B : ℕ} {c : Contents} {e : ℕ → List ℕ} {units : ℕ → List ℕ} {m : Pair} → Ready N B c e m → Holds N B c e [] units → KeepsTheTable N B units [] m
keeps_nothing {N} {B} {c} {e} {units} {m} ready holds = record {
  accepts = record { nvm = tt; disk = tt };
  whole = whole;
  cut = λ n p k again. absurd (stopped_none k);
}
  where
    whole : (n : Pair) → PerformedPair m [] n → Keeps N B n [] units
    whole n done = record { words = c; sectors = e; ready = ready; holds = holds }

pub checkpoints_keep_the_table : CheckpointsKeepTheTable
checkpoints_keep_the_table N B c e [] units m ready holds = keeps_nothing ready holds
checkpoints_keep_the_table N B c e (t ∷ ts) units m ready holds = keeps_acts ready holds
