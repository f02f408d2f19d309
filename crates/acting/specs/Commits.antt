-- A commit as acts of the memory alone. Assumes nothing.
use Rattle.std.specs.Prelude.{◌≡◌, ℕ, List, [], ◌∷◌, ◌++◌, length, Result}
use Rattle.refusal.specs.declared.reason.Refusal.{Refusal}
use Rattle.device.specs.Words.{NvmMeaning, NvmAct, Fence}
use Rattle.device.specs.Sectors.{DiskMeaning}
use Rattle.crash.specs.Pair.{both, RanPair}
use Rattle.ringlaws.specs.Layout.{Contents, tail_of}
use Rattle.ringlaws.specs.TxnInfo.{Transaction, taken}
use Rattle.ringlaws.specs.Spells.{units_of}
use Rattle.calls.specs.Acts.{placing, flushing_places, commit_acts}

-- the places of a transaction from the tail on are stored, flushed and fenced
abbrev pub laying : ℕ → ℕ → Transaction → List NvmAct
laying N tail t = placing N tail (units_of t) ++ (flushing_places N tail (taken (length t)) ++ Fence ∷ [])

-- The acts of a commit ran, to their end or up to the first that was refused, on a memory whose contents have this tail, and
-- beside any disk.
abbrev pub RanCommit : {V : Type 0} → ℕ → ℕ → Transaction → NvmMeaning → Result V Refusal → NvmMeaning → Type 0
RanCommit N tail t m r n = (d : DiskMeaning) (c : Contents) → tail_of c ≡ tail → RanPair (both m d) (commit_acts N c t) r (both n d)
