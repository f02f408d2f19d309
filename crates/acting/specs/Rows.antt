-- The parts of a format's acts that go to one device. Assumes nothing.
use Rattle.std.specs.Prelude.{ℕ, List, [], ◌∷◌, ◌++◌, replicate}
use Rattle.device.specs.Words.{NvmAct, Fence}
use Rattle.device.specs.Sectors.{DiskAct, Write, Sync}
use Rattle.crash.specs.Runs.{each_of}
use Rattle.crash.specs.Rows.{storing, flushing}
use Rattle.calls.specs.Acts.{header_words}

-- write so many blocks with 512 zero words each, and sync
abbrev pub zeroing_blocks : ℕ → List DiskAct
zeroing_blocks blocks = each_of (λ b. Write b (replicate 512 0) ∷ []) blocks ++ Sync ∷ []

-- store words 1 to 31 of unit 0, flush its four lines, and fence
abbrev pub heading_row : ℕ → ℕ → List NvmAct
heading_row N B = storing 1 (header_words N B) ++ (flushing 0 4 ++ Fence ∷ [])
