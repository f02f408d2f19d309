-- The answers of calls that run acts on one device or on both. Assumes nothing.
use Rattle.std.proofs.Common.{◌≡◌, List, [], ◌∷◌, ◌++◌, map, IsErrAnd, Ok, Err, Result}
use Rattle.refusal.specs.declared.reason.Refusal.{Refusal}
use Rattle.device.specs.Devices.{Meaning, Rules, Performs, Refuses, Acted}
use Rattle.device.specs.Words.{NvmMeaning, NvmAct, nvm_rules}
use Rattle.device.specs.Sectors.{DiskMeaning, DiskAct, disk_rules}
use Rattle.crash.specs.Acts.{PerformedOn, HaltedOn, RanOn}
use Rattle.crash.specs.Pair.{Pair, both, Act, on_nvm, on_disk, PairPerforms, PairRefuses, PerformedPair, HaltedPair, RanPair, PairAccepts}
use Rattle.crash.proofs.Runs.{performed_one, stopped_one, ran_broken, ran_after}
use Rattle.crash.proofs.Pairs.{nvm_ran, disk_ran, only_darkness_stops_both}
use Rattle.acting.specs.Ends.{RanOrCut}

-- a single act of one device
pub acted : {A Mark Value : Type 0} (rules : Rules A Mark Value) (m n : Meaning Mark Value) (a : A) (r : Result (Unit {0}) Refusal) → Acted rules m a r n → RanOn rules m (a ∷ []) r n
acted rules m n a (Ok u) s = performed_one s
acted rules m n a (Err e) s = stopped_one s

module _ {A Mark Value : Type 0} {rules : Rules A Mark Value} where
  -- the exit of a `?`
  pub broken : {V : Type 0} {m n : Meaning Mark Value} {acts : List A} {e : Refusal} (r : Result V Refusal) → IsErrAnd r (λ y. y ≡ e) → HaltedOn rules m acts e n → RanOn rules m acts r n
  broken r b h = ran_broken (Performs rules) (Refuses rules) _ r b h

  -- a last call after those before it were performed whole
  pub at_last : {V : Type 0} {m n : Meaning Mark Value} {fs : List A} (p : Meaning Mark Value) (bs : List A) (r : Result V Refusal) → PerformedOn rules m fs n → RanOn rules n bs r p → RanOn rules m (fs ++ bs) r p
  at_last p bs r q s = ran_after (Performs rules) (Refuses rules) p bs r q s

-- both devices
pub pair_broken : {V : Type 0} {m n : Pair} {acts : List Act} {e : Refusal} (r : Result V Refusal) → IsErrAnd r (λ y. y ≡ e) → HaltedPair m acts e n → RanPair m acts r n
pair_broken r b h = ran_broken PairPerforms PairRefuses _ r b h

pub pair_at_last : {V : Type 0} {m n : Pair} {fs : List Act} (p : Pair) (bs : List Act) (r : Result V Refusal) → PerformedPair m fs n → RanPair n bs r p → RanPair m (fs ++ bs) r p
pair_at_last p bs r q s = ran_after PairPerforms PairRefuses p bs r q s

-- a run of one device, stopped, is a stopped run of both
pub nvm_halted : {acts : List NvmAct} {n k : NvmMeaning} {e : Refusal} (d : DiskMeaning) → HaltedOn nvm_rules n acts e k → HaltedPair (both n d) (map on_nvm acts) e (both k d)
nvm_halted {acts} {n} {k} {e} d h = nvm_ran acts n k d {V = Unit {0}} (Err e) h

pub disk_halted : {acts : List DiskAct} {d k : DiskMeaning} {e : Refusal} (n : NvmMeaning) → HaltedOn disk_rules d acts e k → HaltedPair (both n d) (map on_disk acts) e (both n k)
disk_halted {acts} {d} {k} {e} n h = disk_ran acts d k n {V = Unit {0}} (Err e) h

-- where only darkness can stop the acts, they ended or were cut
pub ran_or_cut : {V : Type 0} (acts : List Act) (m n : Pair) (r : Result V Refusal) → PairAccepts m acts → RanPair m acts r n → RanOrCut m acts r n
ran_or_cut acts m n (Ok v) accepted ran = ran
ran_or_cut acts m n (Err e) accepted ran = only_darkness_stops_both acts m n e accepted ran
