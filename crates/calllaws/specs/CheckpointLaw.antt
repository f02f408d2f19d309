-- What a checkpoint and a mount come to, whether they are performed whole or cut. Assumes nothing.
use Rattle.std.specs.Prelude.{ℕ, ◌+◌, List, [], ◌++◌}
use Rattle.crash.specs.Pair.{Pair, Act, PerformedPair, CutPair, PairRestarted, PairAccepts, settling_both}
use Rattle.ringlaws.specs.Layout.{Contents}
use Rattle.ringlaws.specs.TxnInfo.{Transaction}
use Rattle.calls.specs.Acts.{checkpoint_acts}
use Rattle.calllaws.specs.Holds.{Ready, Holds, Keeps}

-- no act is refused but for darkness; performed whole, the acts leave the ring empty and the table as it was; cut anywhere, power
-- brings back the same table, over a ring with or without its transactions
pub record KeepsTheTable (N B : ℕ) (units : ℕ → List ℕ) (acts : List Act) (m : Pair) : Type 0 where
  pub accepts : PairAccepts m acts
  pub whole : (n : Pair) → PerformedPair m acts n → Keeps N B n [] units
  pub cut : (n p : Pair) → CutPair m acts n → PairRestarted n p → (ts : List Transaction) × Keeps N B p ts units

abbrev pub CheckpointsKeepTheTable : Type 0
CheckpointsKeepTheTable =
    (N B : ℕ) (c : Contents) (e : ℕ → List ℕ) (ts : List Transaction) (units : ℕ → List ℕ) (m : Pair)
    → Ready N B c e m → Holds N B c e ts units → KeepsTheTable N B units (checkpoint_acts B c ts e) m

-- a mount settles everything first
abbrev pub MountsKeepTheTable : Type 0
MountsKeepTheTable =
    (N B : ℕ) (c : Contents) (e : ℕ → List ℕ) (ts : List Transaction) (units : ℕ → List ℕ) (m : Pair)
    → Ready N B c e m → Holds N B c e ts units → KeepsTheTable N B units (settling_both (N + 1) ++ checkpoint_acts B c ts e) m
