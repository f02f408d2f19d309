-- A checkpoint of both devices, from its parts. Assumes nothing.
use Rattle.std.proofs.Common.{◌≡◌, ℕ, zero, suc, ◌+◌, ◌*◌, false, cond, List, [], ◌∷◌, ◌++◌, map, IsTrue, Result, sym, refl, ap, ◌∙◌, subst, arith}
use Rattle.std.specs.Option.{option_map}
use Rattle.refusal.specs.declared.reason.Refusal.{Refusal}
use Rattle.device.specs.Words.{NvmMeaning, nvm_rules, loads, words_of}
use Rattle.device.specs.Sectors.{DiskMeaning, DiskAct, Write, Sync, disk_rules, sectors_of}
use Rattle.crash.specs.Runs.{done, each_of}
use Rattle.crash.specs.Acts.{PerformedOn, HaltedOn, RanOn}
use Rattle.crash.specs.Rows.{sealing}
use Rattle.crash.specs.Pair.{both, Act, on_nvm, on_disk, PerformedPair, HaltedPair, RanPair}
use Rattle.crash.proofs.Runs.{stopped_first}
use Rattle.crash.proofs.Pairs.{disk_performed, nvm_ran}
use Rattle.ringlaws.specs.Layout.{Contents, place_at, tail_of, head_word}
use Rattle.ringlaws.specs.TxnInfo.{Transaction}
use Rattle.ringlaws.specs.Sound.{spelled, bad_at}
use Rattle.ringlaws.specs.Newest.{latest, newest}
use Rattle.ringlaws.proofs.Seek.{newest_holds_the_latest, newest_is_a_place}
use Rattle.ringlaws.proofs.Back.{sound_exactly_if_spelled}
use Rattle.ring.specs.Sources.{Agrees}
use Rattle.ring.specs.Walks.{WhyRefused, no_ring, handed_on, unsound}
use Rattle.ringunits.proofs.Rings.{ring}
use Rattle.calls.specs.Table.{table, table_block, is_named, home_unit}
use Rattle.calls.specs.Acts.{writing_homes, checkpoint_acts, named_blocks, sealing_word}
use Rattle.acting.proofs.Running.{pair_at_last, disk_halted}
use Rattle.checkpointing.specs.declared.rows.Row.{Row}
use Rattle.checkpointing.specs.Rows.{place_in, LieIn, is_home, unit_from, row_units, writing_blocks, chosen_below}
use Rattle.checkpointing.specs.Ready.{Fit, Ready}
use Rattle.checkpointing.proofs.Loading.{loads_agree, loads_within, table_by_place}
use Rattle.checkpointing.proofs.Sweeping.{table_same}
use Rattle.checkpointing.proofs.Nexts.{never}
use Rattle.checkpointing.proofs.Naming.{rows_named, rows_counted, rows_none, rows_some}

each_same : {A : Type 0} (f g : ℕ → List A) (n : ℕ) → ((i : ℕ) → f i ≡ g i) → each_of f n ≡ each_of g n
unfolding each_of
each_same f g zero h = refl
each_same f g (suc n) h = ap (λ t. t ++ f n) (each_same f g n h) ∙ ap (λ t. each_of g n ++ t) (h n)

none_named : (B : ℕ) → named_blocks B [] ≡ 0
unfolding named_blocks is_named
none_named zero = refl
none_named (suc b) = ap (λ x. x + 0) (none_named b)

-- where the ring is empty, so are the rows
no_rows : (c : Contents) (rows : List Row) → (rows ≡ [] → ⊥) → ((r : ℕ) → option_map (place_at c) (place_in rows r) ≡ latest [] r) → ⊥
no_rows c [] some h = some refl
no_rows c (row ∷ rows) some h = rows_some c row rows h

-- the homes of rows, written
abbrev homes_written : ℕ → NvmMeaning → DiskMeaning → List Row → List DiskAct
homes_written B m d rows = writing_blocks (is_home rows) (table_block (row_units (words_of m) (place_in rows) (sectors_of d))) B

pub not_so : {P : Type 0} → (P → IsTrue false) → P → ⊥
not_so f p = never (sym (f p))

module _ {N B head tail : ℕ} {m : NvmMeaning} {d : DiskMeaning} where
  -- a ready ring can be walked
  pub gather_open : {ts : List Transaction} → Ready N B m d head tail ts → {e : Refusal} → WhyRefused (loads m) N B head tail e → ⊥
  gather_open ready (no_ring i) = never (sym ready.fit.ring ∙ i)
  gather_open ready {e} (handed_on i w) = loads_within m (N + 1) e ready.fit.nvm_lit ready.fit.units w
  gather_open {ts} ready (unsound {p} i f) =
      let k = ring N head tail i in
      let z : spelled ts ≡ bad_at p = sym ((sound_exactly_if_spelled N B (words_of m) head tail k.head_in k.tail_in ts).1 ready.spells) ∙ f (words_of m) (loads_agree m) in
      let y : ◌≡◌ {A = ℕ} 0 1 = cc in
      omega arith

  -- the rows that were gathered
  module _ (rows : List Row) (gathered : (c : Contents) → Agrees (loads m) c → (r : ℕ) → newest N c head tail r ≡ place_in rows r) where
    pub rows_lie : Fit N B m d head tail → LieIn m.size rows
    rows_lie fit r p e =
        let k = ring N head tail fit.ring in
        let b = newest_is_a_place N (words_of m) head tail r p k.head_in k.tail_in (gathered (words_of m) (loads_agree m) r ∙ e) in
        let u = fit.units in
        omega arith

    module _ {ts : List Transaction} (ready : Ready N B m d head tail ts) where
      held : (r : ℕ) → option_map (place_at (words_of m)) (place_in rows r) ≡ latest ts r
      held r =
          let k = ring N head tail ready.fit.ring in
          ap (option_map (place_at (words_of m))) (sym (gathered (words_of m) (loads_agree m) r)) ∙ newest_holds_the_latest N B (words_of m) head tail k.head_in k.tail_in ts ready.spells r

      units_are : (r : ℕ) → row_units (words_of m) (place_in rows) (sectors_of d) r ≡ table ts (sectors_of d) r
      units_are r =
          ap (λ o. unit_from (words_of m) o (home_unit (sectors_of d) r)) (sym (gathered (words_of m) (loads_agree m) r))
          ∙ sym (table_by_place N B (words_of m) head tail ts (sectors_of d) r ready.fit.ring ready.spells)

      acts_are : homes_written B m d rows ≡ writing_homes B ts (sectors_of d)
      acts_are =
          each_same (λ b. cond (is_home rows b) (Write b (table_block (row_units (words_of m) (place_in rows) (sectors_of d)) b) ∷ []) [])
          (λ b. cond (is_named ts b) (Write b (table_block (table ts (sectors_of d)) b) ∷ []) []) B (λ b.
          ap (λ t. cond t (Write b (table_block (row_units (words_of m) (place_in rows) (sectors_of d)) b) ∷ []) []) (rows_named (words_of m) ts rows held b)
          ∙ ap (λ w. cond (is_named ts b) (Write b w ∷ []) []) (table_same (row_units (words_of m) (place_in rows) (sectors_of d)) (table ts (sectors_of d)) b (λ k lt. units_are (16 * b + k))))

      pub count_is : chosen_below (is_home rows) B ≡ named_blocks B ts
      count_is = rows_counted (words_of m) ts rows held B

      -- no rows: no transactions, and no act
      none : rows ≡ [] → ts ≡ []
      none z = rows_none B (words_of m) ts ready.spells.fair (λ r. ap (λ x. option_map (place_at (words_of m)) (place_in x r)) (sym z) ∙ held r)

      pub nothing_ran : rows ≡ [] → PerformedPair (both m d) (checkpoint_acts B (words_of m) ts (sectors_of d)) (both m d)
      nothing_ran z = subst (λ (us : List Transaction). PerformedPair (both m d) (checkpoint_acts B (words_of m) us (sectors_of d)) (both m d)) (sym (none z)) done

      pub nothing_counted : rows ≡ [] → 0 ≡ named_blocks B ts
      nothing_counted z = sym (ap (named_blocks B) (none z) ∙ none_named B)

      -- rows: the homes are written, then the head moves
      module _ (some : rows ≡ [] → ⊥) (at : tail_of (words_of m) ≡ tail) where
        acts : checkpoint_acts B (words_of m) ts (sectors_of d) ≡ map on_disk (homes_written B m d rows ++ Sync ∷ []) ++ map on_nvm (sealing head_word tail)
        acts = by_list ts held acts_are
          where
            by_list : (us : List Transaction) → ((r : ℕ) → option_map (place_at (words_of m)) (place_in rows r) ≡ latest us r) → homes_written B m d rows ≡ writing_homes B us (sectors_of d)
                → checkpoint_acts B (words_of m) us (sectors_of d) ≡ map on_disk (homes_written B m d rows ++ Sync ∷ []) ++ map on_nvm (sealing head_word tail)
            by_list [] h e = absurd (no_rows (words_of m) rows some h)
            by_list (t ∷ us) h e =
                ap (λ w. map on_disk (w ++ Sync ∷ []) ++ sealing_word head_word (tail_of (words_of m))) (sym e)
                ∙ ap (λ v. map on_disk (homes_written B m d rows ++ Sync ∷ []) ++ map on_nvm (sealing head_word v)) at

        pub homes_broken : {e : Refusal} {d' : DiskMeaning} → HaltedOn disk_rules d (homes_written B m d rows ++ Sync ∷ []) e d' → HaltedPair (both m d) (checkpoint_acts B (words_of m) ts (sectors_of d)) e (both m d')
        homes_broken {e} {d'} h = subst (λ (a : List Act). HaltedPair (both m d) a e (both m d')) (sym acts) (stopped_first (map on_nvm (sealing head_word tail)) (disk_halted m h))

        pub head_ran : {d' : DiskMeaning} (m' : NvmMeaning) {V : Type 0} (r : Result V Refusal) → PerformedOn disk_rules d (homes_written B m d rows ++ Sync ∷ []) d' → RanOn nvm_rules m (sealing head_word tail) r m'
            → RanPair (both m d) (checkpoint_acts B (words_of m) ts (sectors_of d)) r (both m' d')
        head_ran {d'} m' r h s = subst (λ (a : List Act). RanPair (both m d) a r (both m' d')) (sym acts)
            (pair_at_last (both m' d') (map on_nvm (sealing head_word tail)) r (disk_performed m h) (nvm_ran (sealing head_word tail) m m' d' r s))
