-- The device acts of format, mount, commit and checkpoint, in their order. Words, lines and blocks go ascending; places, stored
-- or flushed, go from the old tail on; flushes after stores take the stored lines, once each. Assumes nothing.
use Rattle.std.specs.Prelude.{ℕ, zero, suc, ◌+◌, ◌*◌, cond, List, [], ◌∷◌, ◌++◌, map, length, replicate, slice_index_or}
use Rattle.device.specs.Words.{NvmAct, Fence}
use Rattle.device.specs.Sectors.{DiskAct, Write, Sync}
use Rattle.crash.specs.Runs.{each_of}
use Rattle.crash.specs.Rows.{storing, flushing, sealing}
use Rattle.crash.specs.Pair.{Act, on_nvm, on_disk, settling_both}
use Rattle.ringlaws.specs.Layout.{Contents, ground_mark, ground_word, head_word, tail_word, tail_of, after}
use Rattle.ringlaws.specs.TxnInfo.{Transaction, taken}
use Rattle.ringlaws.specs.Spells.{units_of}
use Rattle.calls.specs.Table.{table, table_block, is_named}

-- store a word, flush its line, fence
abbrev pub sealing_word : ℕ → ℕ → List Act
sealing_word w v = map on_nvm (sealing w v)

-- write so many blocks with 512 zero words each, and sync
abbrev pub zeroing : ℕ → List Act
zeroing blocks = map on_disk (each_of (λ b. Write b (replicate 512 0) ∷ []) blocks ++ Sync ∷ [])

-- words 1 to 31 of unit 0: N, B, and zeros, head and tail among them
abbrev pub header_words : ℕ → ℕ → List ℕ
header_words N B = N ∷ B ∷ replicate 29 0

-- store them, flush the four lines of unit 0, fence
abbrev pub heading : ℕ → ℕ → List Act
heading N B = map on_nvm (storing 1 (header_words N B) ++ (flushing 0 4 ++ Fence ∷ []))

-- Format: settle everything (flush all lines, fence, sync), whatever was there; take the ground mark away; zero the blocks; write
-- the header; set the ground mark. As long as it is away, a mount refuses what a cut format has left.
abbrev pub format_acts : ℕ → ℕ → List Act
format_acts N B =
    settling_both (N + 1) ++ (sealing_word ground_word 0 ++ (zeroing B ++ (heading N B ++ sealing_word ground_word ground_mark)))

-- the units of a transaction stored at the places from the tail on
abbrev pub placing : ℕ → ℕ → List (List ℕ) → List NvmAct
placing N tail units = each_of (λ k. storing (32 * (after N tail k + 1)) (slice_index_or units k [])) (length units)

-- the lines of so many places from the tail on, four a place
abbrev pub flushing_places : ℕ → ℕ → ℕ → List NvmAct
flushing_places N tail n = each_of (λ k. flushing (4 * (after N tail k + 1)) 4) n

-- Commit: the places are stored, flushed and fenced before the tail moves over them. An empty transaction needs no act.
abbrev pub commit_acts : ℕ → Contents → Transaction → List Act
commit_acts N c [] = []
commit_acts N c (s ∷ t) =
    map on_nvm (placing N (tail_of c) (units_of (s ∷ t)) ++ (flushing_places N (tail_of c) (taken (length (s ∷ t))) ++ Fence ∷ []))
    ++ sealing_word tail_word (after N (tail_of c) (taken (length (s ∷ t))))

-- each block below B that is home to a named record, once, as the table has it
abbrev pub writing_homes : ℕ → List Transaction → (ℕ → List ℕ) → List DiskAct
writing_homes B ts sectors = each_of (λ b. cond (is_named ts b) (Write b (table_block (table ts sectors) b) ∷ []) []) B

-- how many of the blocks below B are home to a named record
unfoldable pub named_blocks : ℕ → List Transaction → ℕ
named_blocks zero ts = 0
named_blocks (suc b) ts = named_blocks b ts + cond (is_named ts b) 1 0

-- Checkpoint: the homes are written and synced before the head moves up to the tail. An empty ring needs no act.
abbrev pub checkpoint_acts : ℕ → Contents → List Transaction → (ℕ → List ℕ) → List Act
checkpoint_acts B c [] sectors = []
checkpoint_acts B c (t ∷ ts) sectors =
    map on_disk (writing_homes B (t ∷ ts) sectors ++ Sync ∷ []) ++ sealing_word head_word (tail_of c)
