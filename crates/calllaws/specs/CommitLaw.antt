-- What a commit comes to, whether it is performed whole or cut. Assumes nothing.
use Rattle.std.specs.Prelude.{◌≡◌, ℕ, false, ◌⊎◌, List, [], ◌∷◌, ◌++◌}
use Rattle.crash.specs.Pair.{Pair, PerformedPair, CutPair, PairRestarted, PairAccepts}
use Rattle.ringlaws.specs.Layout.{Contents}
use Rattle.ringlaws.specs.TxnInfo.{Transaction}
use Rattle.ringlaws.specs.Spells.{Fair}
use Rattle.ringlaws.specs.Newest.{lay}
use Rattle.calls.specs.Acts.{commit_acts}
use Rattle.calls.specs.Plans.{is_full}
use Rattle.calllaws.specs.Holds.{Ready, Holds, Keeps}

-- A commit of a fair transaction for which there is room: no act is refused but for darkness; performed whole, the ring has one
-- transaction more and the table has it laid over; cut anywhere, power brings back the old ring and table or the new ones.
pub record CommitComesTo (N B : ℕ) (c : Contents) (ts : List Transaction) (units : ℕ → List ℕ) (t : Transaction) (m : Pair) : Type 0 where
  pub accepts : PairAccepts m (commit_acts N c t)
  pub whole : (n : Pair) → PerformedPair m (commit_acts N c t) n → Keeps N B n (ts ++ t ∷ []) (lay t units)
  pub cut : (n p : Pair) → CutPair m (commit_acts N c t) n → PairRestarted n p
      → Keeps N B p ts units ⊎ Keeps N B p (ts ++ t ∷ []) (lay t units)

abbrev pub CommitsAreAtomic : Type 0
CommitsAreAtomic =
    (N B : ℕ) (c : Contents) (e : ℕ → List ℕ) (ts : List Transaction) (units : ℕ → List ℕ) (t : Transaction) (m : Pair)
    → Ready N B c e m → Holds N B c e ts units → Fair B t → is_full N c t ≡ false → CommitComesTo N B c ts units t m
