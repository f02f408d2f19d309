-- A checkpoint's writes, from named block to named block. Assumes nothing.
use Rattle.std.proofs.Common.{◌≡◌, ℕ, zero, suc, ◌+◌, ◌-◌, ◌*◌, ◌/◌, ◌%◌, ◌<◌, ◌≤◌, Bool, true, false, cond, eqb, List, [], ◌∷◌, ◌++◌, get_or, Option, sym, refl, ap, ◌∙◌, subst, inl, inr, append-nil, arith}
use Rattle.std.proofs.lemmas.Bool.Decides.{nat_tests}
use Rattle.std.proofs.lemmas.List.FromFn.{length-map-range_with_len, get_or-map-range_with_len, fill_by_all}
use Rattle.refusal.specs.declared.reason.Refusal.{Refusal}
use Rattle.device.specs.Pieces.{unsettled, settled_value, present_value, MaySettle}
use Rattle.device.specs.Devices.{Performs, Refuses}
use Rattle.device.specs.Sectors.{Sector, waits, sector_of, DiskMeaning, DiskAct, Write, Sync, disk_rules, disk_makes, disk_word, block_of, sectors_of}
use Rattle.crash.specs.Runs.{done, each_of}
use Rattle.crash.specs.Acts.{PerformedOn, HaltedOn}
use Rattle.crash.proofs.Runs.{performed_one, performed_append, stopped_one, stopped_first, stopped_second, loop_more, loop_stops}
use Rattle.ringlaws.specs.Layout.{Contents, unit_at}
use Rattle.ringunits.specs.Images.{contents_of}
use Rattle.calls.specs.Table.{table_block}
use Rattle.checkpointing.specs.declared.rows.Row.{Row}
use Rattle.checkpointing.specs.Rows.{place_in, unit_from, row_units, is_home, NoneHome, Next, writing_blocks, chosen_below}
use Rattle.checkpointing.proofs.Loading.{block_word, home_in_block}

-- a write leaves the present contents of every other block
pub present_other : (k n : DiskMeaning) (b : ℕ) (ws : List ℕ) (s : ℕ) → Performs disk_rules k (Write b ws) n → (s / 8 ≡ b → ⊥) → sectors_of n s ≡ sectors_of k s
present_other k n b ws s st ne =
    let no-match : eqb (s / 8) b ≡ false = grind (arith, nat_tests) in
    let off : disk_makes (Write b ws) s (k.piece s) ≡ k.piece s = ap (λ t. cond t (unsettled waits (settled_value (k.piece s)) (sector_of ws (s % 8))) (k.piece s)) no-match in
    by_way (disk_makes (Write b ws) s (k.piece s)) off (st.pieces s)
  where
    by_way : (x : Sector) → x ≡ k.piece s → MaySettle x (n.piece s) → sectors_of n s ≡ sectors_of k s
    by_way x off (inl h) = ap present_value (h ∙ off)
    by_way x off (inr h) = ap present_value h ∙ ap present_value off

block_near : (e f : ℕ → List ℕ) (b : ℕ) → ((s : ℕ) → s / 8 ≡ b → f s ≡ e s) → block_of f b ≡ block_of e b
unfolding block_of
block_near e f b h =
    fill_by_all (λ i. disk_word e (512 * b + i)) (block_of f b) 512 0 (length-map-range_with_len (λ i. disk_word f (512 * b + i)) 0 512)
    (λ j l. block_word f b j l ∙ ap (λ x. get_or x ((512 * b + j) % 64) 0) (h ((512 * b + j) / 64) (omega arith)))

pub table_same : (u v : ℕ → List ℕ) (b : ℕ) → ((k : ℕ) → k < 16 → u (16 * b + k) ≡ v (16 * b + k)) → table_block u b ≡ table_block v b
unfolding table_block
table_same u v b h =
    fill_by_all (λ i. get_or (v (16 * b + i / 32)) (i % 32) 0) (table_block u b) 512 0 (length-map-range_with_len (λ i. get_or (u (16 * b + i / 32)) (i % 32) 0) 0 512)
    (λ j l. get_or-map-range_with_len (λ i. get_or (u (16 * b + i / 32)) (i % 32) 0) 0 512 j j 0 l (omega arith) ∙ ap (λ x. get_or x (j % 32) 0) (h (j / 32) (omega arith)))

-- a block as the table has it hangs on the sectors of that block alone
table_near : (c : Contents) (place : ℕ → Option ℕ) (e f : ℕ → List ℕ) (b : ℕ) → ((s : ℕ) → s / 8 ≡ b → f s ≡ e s) → table_block (row_units c place f) b ≡ table_block (row_units c place e) b
table_near c place e f b h = table_same (row_units c place f) (row_units c place e) b (λ k lt.
    ap (unit_from c (place (16 * b + k))) (sym (home_in_block f b k lt) ∙ ap (λ x. unit_at (contents_of x) k) (block_near e f b h) ∙ home_in_block e b k lt))

module _ (chosen : ℕ → Bool) (words : ℕ → List ℕ) where
  -- blocks that are not chosen add nothing
  skip_on : (b k : ℕ) → ((x : ℕ) → b ≤ x → x < b + k → chosen x ≡ false)
      → (writing_blocks chosen words (b + k) ≡ writing_blocks chosen words b) × (chosen_below chosen (b + k) ≡ chosen_below chosen b)
  unfolding each_of chosen_below
  skip_on b zero h = let q : b + 0 ≡ b = omega arith in (ap (writing_blocks chosen words) q, ap (chosen_below chosen) q)
  skip_on b (suc k) h =
      let q : b + suc k ≡ suc (b + k) = omega arith in
      let off : chosen (b + k) ≡ false = h (b + k) (omega arith) (omega arith) in
      let (i, j) = skip_on b k (λ x l g. h x l (omega arith)) in
      let none : chosen_below chosen (b + k) + 0 ≡ chosen_below chosen (b + k) = omega arith in (
        ap (writing_blocks chosen words) q
            ∙ ap (λ t. writing_blocks chosen words (b + k) ++ cond t (Write (b + k) (words (b + k)) ∷ []) []) off
            ∙ append-nil (writing_blocks chosen words (b + k))
            ∙ i,
        ap (chosen_below chosen) q ∙ ap (λ t. chosen_below chosen (b + k) + cond t 1 0) off ∙ none ∙ j,
      )

  skip : (b d : ℕ) → b ≤ d → ((x : ℕ) → b ≤ x → x < d → chosen x ≡ false)
      → (writing_blocks chosen words d ≡ writing_blocks chosen words b) × (chosen_below chosen d ≡ chosen_below chosen b)
  skip b d l h =
      let q : b + (d - b) ≡ d = omega arith in
      let (i, j) = skip_on b (d - b) (λ x f g. h x f (omega arith)) in
      (ap (writing_blocks chosen words) (sym q) ∙ i, ap (chosen_below chosen) (sym q) ∙ j)

  count_on : (b : ℕ) → chosen b ≡ true → chosen_below chosen (b + 1) ≡ chosen_below chosen b + 1
  unfolding chosen_below
  count_on b on = let q : b + 1 ≡ suc b = omega arith in ap (chosen_below chosen) q ∙ ap (λ t. chosen_below chosen b + cond t 1 0) on

-- the loop over the homes on a disk that was m and is k now, behind those below `from`
module _ (rows : List Row) (c : Contents) (m : DiskMeaning) where
  abbrev pub words : ℕ → List ℕ
  words b = table_block (row_units c (place_in rows) (sectors_of m)) b

  pub record Going (limit from count : ℕ) (k : DiskMeaning) : Type 0 where
    pub ran : PerformedOn disk_rules m (writing_blocks (is_home rows) words from) k
    pub inside : from ≤ limit
    pub counted : count ≡ chosen_below (is_home rows) from
    pub few : count ≤ from
    pub power : k.dark ≡ m.dark
    pub size : k.size ≡ m.size
    pub rest : (s : ℕ) → from ≤ s / 8 → sectors_of k s ≡ sectors_of m s

  pub going_start : (limit : ℕ) → Going limit 0 0 m
  unfolding each_of chosen_below
  going_start limit = record { ran = done; inside = omega arith; counted = refl; few = omega arith; power = refl; size = refl; rest = λ s le. refl }

  module _ {limit from count : ℕ} {k : DiskMeaning} (h : Going limit from count k) where
    -- the turn of the next home is its write
    module _ (b : ℕ) (next : Next rows from limit b) where
      passed : PerformedOn disk_rules m (writing_blocks (is_home rows) words b) k
      passed =
          let (i, j) = skip (is_home rows) words from b next.least next.none in
          subst (λ (acts : List DiskAct). PerformedOn disk_rules m acts k) (sym i) h.ran

      one : Write b (words b) ∷ [] ≡ cond (is_home rows b) (Write b (words b) ∷ []) []
      one = sym (ap (λ t. cond t (Write b (words b) ∷ []) []) next.home)

      same_words : table_block (row_units c (place_in rows) (sectors_of k)) b ≡ words b
      same_words = let l = next.least in table_near c (place_in rows) (sectors_of m) (sectors_of k) b (λ s e. h.rest s (omega arith))

      pub going_on : (k' : DiskMeaning) → Performs disk_rules k (Write b (table_block (row_units c (place_in rows) (sectors_of k)) b)) k' → Going limit (b + 1) (count + 1) k'
      going_on k' s =
          let step : Performs disk_rules k (Write b (words b)) k' = subst (λ (ws : List ℕ). Performs disk_rules k (Write b ws) k') same_words s in
          let (i, j) = skip (is_home rows) words from b next.least next.none in
          let turn : PerformedOn disk_rules k (cond (is_home rows b) (Write b (words b) ∷ []) []) k' = subst (λ (acts : List DiskAct). PerformedOn disk_rules k acts k') one (performed_one step) in
          let more = count_on (is_home rows) words b next.home in
          let counted = h.counted in
          let few = h.few in
          let least = next.least in
          let most = next.most in
          record {
            ran = loop_more (λ x. cond (is_home rows x) (Write x (words x) ∷ []) []) b passed turn;
            inside = omega arith;
            counted = omega (arith, more, j);
            few = omega arith;
            power = step.power ∙ h.power;
            size = step.size ∙ h.size;
            rest = λ s le. present_other k k' b (words b) s step (λ e. omega arith) ∙ h.rest s (omega arith);
          }

      pub going_broken : (k' : DiskMeaning) (e : Refusal) → Refuses disk_rules k (Write b (table_block (row_units c (place_in rows) (sectors_of k)) b)) e k'
          → HaltedOn disk_rules m (writing_blocks (is_home rows) words limit ++ Sync ∷ []) e k'
      going_broken k' e s =
          let stop : Refuses disk_rules k (Write b (words b)) e k' = subst (λ (ws : List ℕ). Refuses disk_rules k (Write b ws) e k') same_words s in
          let turn : HaltedOn disk_rules k (cond (is_home rows b) (Write b (words b) ∷ []) []) e k' = subst (λ (acts : List DiskAct). HaltedOn disk_rules k acts e k') one (stopped_one stop) in
          stopped_first (Sync ∷ []) (loop_stops (λ x. cond (is_home rows x) (Write x (words x) ∷ []) []) b limit next.most passed turn)

    -- where no home is left, all are written
    module _ (none : NoneHome rows from limit) where
      all : PerformedOn disk_rules m (writing_blocks (is_home rows) words limit) k
      all =
          let (i, j) = skip (is_home rows) words from limit h.inside none in
          subst (λ (acts : List DiskAct). PerformedOn disk_rules m acts k) (sym i) h.ran

      pub going_counted : count ≡ chosen_below (is_home rows) limit
      going_counted = let (i, j) = skip (is_home rows) words from limit h.inside none in h.counted ∙ sym j

      pub going_end : (k' : DiskMeaning) → Performs disk_rules k Sync k' → PerformedOn disk_rules m (writing_blocks (is_home rows) words limit ++ Sync ∷ []) k'
      going_end k' s = performed_append all (performed_one s)

      pub going_cut : (k' : DiskMeaning) (e : Refusal) → Refuses disk_rules k Sync e k' → HaltedOn disk_rules m (writing_blocks (is_home rows) words limit ++ Sync ∷ []) e k'
      going_cut k' e s = stopped_second all (stopped_one s)
