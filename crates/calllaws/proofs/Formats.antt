-- A format, performed whole on devices with any contents, leaves an empty ring and zero units. Assumes nothing.
use Rattle.std.proofs.Common.{◌≡◌, ℕ, ◌+◌, ◌-◌, ◌/◌, ◌%◌, ◌<◌, ◌≤◌, true, cond, ◌&&◌, eqb, ltb, List, [], ◌∷◌, ◌++◌, get_or, replicate, sym, refl, ap, ◌∙◌, le_refl, arith}
use Rattle.std.proofs.lemmas.Bool.Decides.{nat_tests}
use Rattle.std.proofs.lemmas.List.{length-replicate}
use Rattle.device.specs.Words.{Fence, words_of, nvm_rules}
use Rattle.device.specs.Sectors.{Write, Sync, sector_of, sectors_of, disk_rules}
use Rattle.crash.specs.Runs.{each_of}
use Rattle.crash.specs.Keeping.{nvm_keeps, disk_keeps, kept, Phase}
use Rattle.crash.specs.Rows.{storing, flushing, inside, stores_word, flushes_line}
use Rattle.crash.specs.Pair.{Pair, Act, PerformedPair, settling_both}
use Rattle.crash.proofs.Runs.{performed_split}
use Rattle.crash.proofs.Rows.{storing_word, storing_kept, storing_row, flushing_line, flushing_row}
use Rattle.crash.proofs.Phases.{stores_are_a_phase, writes_are_a_phase, sealing_is_a_phase}
use Rattle.ringlaws.specs.Layout.{Contents, ground_mark, ground_word, records_of}
use Rattle.ringlaws.specs.Newest.{laid}
use Rattle.ringlaws.proofs.Append.{empty_spells_nothing}
use Rattle.calls.specs.Table.{home_unit, zero_unit}
use Rattle.calls.specs.Acts.{sealing_word, zeroing, header_words, heading, format_acts}
use Rattle.calllaws.specs.Holds.{Holds, Keeps}
use Rattle.calllaws.specs.FormatLaw.{FormatsMakeAnEmptyStore}
use Rattle.calllaws.proofs.Homes.{home_written, zero_block}
use Rattle.calllaws.proofs.Writes.{writing_fits, writing_kept}
use Rattle.calllaws.proofs.Stages.{Stage, stage_then, stage_whole, nvm_stage, disk_stage, performed_sizes}
use Rattle.calllaws.proofs.Settling.{settling_settles_both, settling_then}

-- the words with v in the place of the ground mark
abbrev marked : ℕ → Contents → Contents
marked v c w = cond (eqb w ground_word) v (c w)

-- unit 0 with its header words stored
abbrev headed : ℕ → ℕ → Contents → Contents
headed N B c w = kept nvm_keeps (storing 1 (header_words N B)) w (c w)

-- all blocks zero
abbrev zeroed : ℕ → (ℕ → List ℕ) → ℕ → List ℕ
zeroed B e s = kept disk_keeps (each_of (λ b. Write b (replicate 512 0) ∷ []) B) s (e s)

-- the words after a format
abbrev formatted : ℕ → ℕ → Contents → Contents
formatted N B c = marked ground_mark (headed N B (marked 0 c))

module _ (N B : ℕ) where
  header_word : (w x : ℕ) → kept nvm_keeps (storing 1 (header_words N B)) w x ≡ cond (inside 1 32 w) (get_or (header_words N B) (w - 1) 0) x
  header_word w x = storing_kept 1 (header_words N B) w x

  -- each header word lies in one of the four lines that are flushed
  header_flushed : (w : ℕ) → stores_word w (storing 1 (header_words N B)) ≡ true → flushes_line (w / 8) (flushing 0 4) ≡ true
  header_flushed w e =
      let h : inside 1 (1 + 31) w ≡ true = sym (storing_word 1 (header_words N B) w) ∙ e in
      let k : inside 0 (0 + 4) (w / 8) ≡ true = grind (arith, nat_tests) in
      flushing_line 0 4 (w / 8) ∙ k

  heading_phase : (c : Contents) → Phase nvm_rules nvm_keeps (N + 1) c (storing 1 (header_words N B) ++ (flushing 0 4 ++ Fence ∷ [])) (headed N B c)
  heading_phase c =
      stores_are_a_phase (N + 1) (storing 1 (header_words N B)) (flushing 0 4) c
      (storing_row 1 (header_words N B) (N + 1) (omega arith)) (flushing_row 0 (N + 1) 4 (omega arith)) header_flushed

  zeroing_phase : (e : ℕ → List ℕ) → Phase disk_rules disk_keeps B e (each_of (λ b. Write b (replicate 512 0) ∷ []) B ++ Sync ∷ []) (zeroed B e)
  zeroing_phase e = writes_are_a_phase B (each_of (λ b. Write b (replicate 512 0) ∷ []) B) e (writing_fits (λ b. true) (λ b. replicate 512 0) B B (le_refl B))

  -- the acts of a format after everything was settled
  abbrev after_settling : List Act
  after_settling = sealing_word ground_word 0 ++ (zeroing B ++ (heading N B ++ sealing_word ground_word ground_mark))

  format_stage : (c : Contents) (e : ℕ → List ℕ) → Stage (N + 1) B c e after_settling (formatted N B c) (zeroed B e)
  format_stage c e =
      stage_then (nvm_stage (sealing_is_a_phase (N + 1) ground_word 0 c (omega arith)))
      (stage_then (disk_stage (zeroing_phase e))
      (stage_then (nvm_stage (heading_phase (marked 0 c))) (nvm_stage (sealing_is_a_phase (N + 1) ground_word ground_mark (headed N B (marked 0 c)) (omega arith)))))

  zero_home : (e : ℕ → List ℕ) (r : ℕ) → r < records_of B → home_unit (zeroed B e) r ≡ zero_unit
  zero_home e r lt =
      let inside-it : ltb (r / 2 / 8) B ≡ true = grind (arith, nat_tests) in
      home_written (λ x. zero_unit) (zeroed B e) r (length-replicate {A = ℕ} 32 0)
      (writing_kept (λ b. true) (λ b. replicate 512 0) B (r / 2) (e (r / 2))
      ∙ ap (λ t. cond (t && true) (sector_of (replicate 512 0) (r / 2 % 8)) (e (r / 2))) inside-it
      ∙ ap (λ block. sector_of block (r / 2 % 8)) (zero_block (r / 16)))

  empty_store : (c : Contents) (e : ℕ → List ℕ) → 1 ≤ N → Holds N B (formatted N B c) (zeroed B e) [] (λ r. zero_unit)
  unfolding laid
  empty_store c e some =
      let head : formatted N B c 8 ≡ 0 = header_word 8 (c 8) in
      let tail : formatted N B c 16 ≡ 0 = header_word 16 (c 16) in
      let below : formatted N B c 8 < N = omega arith in
      record {
        mark = refl;
        places = header_word 1 (c 1);
        blocks = header_word 2 (c 2);
        head = below;
        tail = omega arith;
        spells = empty_spells_nothing N B (formatted N B c) below (tail ∙ sym head);
        same = λ r lt. zero_home e r lt;
      }

pub formats_make_an_empty_store : FormatsMakeAnEmptyStore
formats_make_an_empty_store N B m any = (settling_then N B any (format_stage N B (words_of m.nvm) (sectors_of m.disk)), whole)
  where
    whole : (n : Pair) → PerformedPair m (format_acts N B) n → Keeps N B n [] (λ r. zero_unit)
    whole n r =
        let (k, first, second) = performed_split (settling_both (N + 1)) (after_settling N B) r in
        let sizes = performed_sizes r in
        record {
          words = formatted N B (words_of m.nvm);
          sectors = zeroed B (sectors_of m.disk);
          ready = record {
            least = any.least;
            most = any.most;
            some = any.some;
            few = any.few;
            units = sizes.units ∙ any.units;
            blocks = sizes.blocks ∙ any.blocks;
            rests = stage_whole (format_stage N B (words_of m.nvm) (sectors_of m.disk)) ((settling_settles_both N B m any).1 k first) second;
          };
          holds = empty_store N B (words_of m.nvm) (sectors_of m.disk) (let h = any.least in omega arith);
        }
