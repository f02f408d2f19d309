-- What a run of acts, a power cut at any act and a restart leave of a device. The statements are over the rules of a device,
-- and hold of both kinds. Assumes nothing.
use Rattle.std.specs.Prelude.{◌≡◌, ℕ, ◌*◌, ◌≤◌, Bool, true, false, ◌⊎◌, List, [], ◌∷◌, ◌++◌}
use Rattle.refusal.specs.declared.reason.Refusal.{Refusal}
use Rattle.refusal.specs.declared.reason.Refusal.TheVariants.{Dark}
use Rattle.device.specs.Pieces.{settled, is_unsettled, ComesBack}
use Rattle.device.specs.Devices.{Meaning, Rules, Restarted}
use Rattle.device.specs.Words.{NvmMeaning, NvmAct, words_of, nvm_rules}
use Rattle.device.specs.Sectors.{DiskMeaning, Sync, sectors_of, disk_rules}
use Rattle.crash.specs.Acts.{PerformedOn, HaltedOn, CutOn, Begun, contents, Rests, Blend, Mixed, made, Calmer, Leads, Spares, Accepts}
use Rattle.crash.specs.Keeping.{kept, nvm_keeps, Brings, Quiet}
use Rattle.crash.specs.Rows.{sealing, settling}

module _ {Act Mark Value : Type 0} (rules : Rules Act Mark Value) where
  -- a run that was performed whole has begun, and so has one that was cut or stopped by a refusal
  abbrev pub RunsHaveBegun : Type 0
  RunsHaveBegun =
      (acts : List Act) (m n : Meaning Mark Value)
      → (PerformedOn rules m acts n → Begun rules m acts n)
      × (CutOn rules m acts n → Begun rules m acts n)
      × ((e : Refusal) → HaltedOn rules m acts e n → Begun rules m acts n)

  -- What was settled and no act touches outlasts the acts, however many of them were performed, and any restart.
  abbrev pub UntouchedOutlasts : Type 0
  UntouchedOutlasts =
      (S : ℕ → Bool) (acts : List Act) (m n p : Meaning Mark Value)
      → ((i : ℕ) → S i ≡ true → is_unsettled (m.piece i) ≡ false)
      → Spares rules S acts
      → Begun rules m acts n
      → Restarted n p
      → (i : ℕ) → S i ≡ true → p.piece i ≡ m.piece i

  -- The marks after a performed run are no worse than what the acts make of them: what the device settles of its own accord
  -- only helps.
  abbrev pub MarksFollow : Type 0
  MarksFollow = (acts : List Act) (m n : Meaning Mark Value) → PerformedOn rules m acts n → (i : ℕ) → Calmer (made rules acts i (m.piece i)) (n.piece i)

  -- a phase that is performed whole takes settled contents to settled contents
  abbrev pub PhaseSettles : Type 0
  PhaseSettles = (c d : ℕ → Value) (acts : List Act) (m n : Meaning Mark Value) → Rests c m → Leads rules c acts d → PerformedOn rules m acts n → Rests d n

  -- Where no act is beyond the size or meets an unsettled piece where it may not, only darkness stops a run.
  abbrev pub OnlyDarknessStops : Type 0
  OnlyDarknessStops =
      (acts : List Act) (m n : Meaning Mark Value) (e : Refusal)
      → Accepts rules m.size m.piece acts → HaltedOn rules m acts e n → (e ≡ Dark) × CutOn rules m acts n

  module _ (keeps : Act → ℕ → Value → Value) where
    -- the present contents after a performed run are a function of the acts and of the present contents before
    abbrev pub ContentsFollow : Type 0
    ContentsFollow = (acts : List Act) (m n : Meaning Mark Value) → PerformedOn rules m acts n → (i : ℕ) → contents n i ≡ kept keeps acts i (contents m i)

    -- Acts that bring only d's values to pieces whose values are c's or d's: after a cut at any act and a restart each piece
    -- is settled, at c's value or at d's.
    abbrev pub CutPhaseBlends : Type 0
    CutPhaseBlends =
        (c d : ℕ → Value) (acts : List Act) (m n p : Meaning Mark Value)
        → Mixed c d m
        → Brings keeps d acts
        → Begun rules m acts n
        → Restarted n p
        → Rests (contents p) p × Blend c d (contents p)

    -- Acts that move no present value: until a restart the present contents are as they were, and each piece comes back as
    -- it might have come back before the acts.
    abbrev pub QuietActsShowNothing : Type 0
    QuietActsShowNothing =
        (acts : List Act) (m n : Meaning Mark Value)
        → Quiet keeps acts
        → Begun rules m acts n
        → ((i : ℕ) → contents n i ≡ contents m i)
        × ((p : Meaning Mark Value) → Restarted n p → (i : ℕ) → ComesBack (m.piece i) (p.piece i))

-- Acts that lead from settled contents c to settled contents d and touch no word of S, to which t belongs; then the word t is
-- stored as v and made to last. A cut and a restart leave all of S as it was, or every word as the whole run leaves it.
abbrev pub SealingIsAtomic : Type 0
SealingIsAtomic =
    (c d : ℕ → ℕ) (acts : List NvmAct) (t v : ℕ) (S : ℕ → Bool) (m n p : NvmMeaning)
    → Rests c m
    → Leads nvm_rules c acts d
    → Spares nvm_rules S acts
    → S t ≡ true
    → Begun nvm_rules m (acts ++ sealing t v) n
    → Restarted n p
    → ((w : ℕ) → S w ≡ true → p.piece w ≡ settled (c w))
    ⊎ ((w : ℕ) → p.piece w ≡ settled (kept nvm_keeps (acts ++ sealing t v) w (c w)))

-- A memory that has nothing to settle beyond its size: flushes of all its lines and a fence settle everything, whatever it
-- held, at its present contents.
abbrev pub FlushesSettleAll : Type 0
FlushesSettleAll =
    (m n : NvmMeaning)
    → ((w : ℕ) → 32 * m.size ≤ w → is_unsettled (m.piece w) ≡ false)
    → PerformedOn nvm_rules m (settling m.size) n
    → Rests (words_of m) n

-- a sync settles a whole disk at its present contents
abbrev pub SyncSettlesAll : Type 0
SyncSettlesAll = (m n : DiskMeaning) → PerformedOn disk_rules m (Sync ∷ []) n → Rests (sectors_of m) n
