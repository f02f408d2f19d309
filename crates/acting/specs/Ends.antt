-- How a call of the store may end, once its acts were run. Assumes nothing.
use Rattle.std.specs.Prelude.{◌≡◌, List, Ok, Err, Result}
use Rattle.refusal.specs.declared.reason.Refusal.{Refusal}
use Rattle.refusal.specs.declared.reason.Refusal.TheVariants.{Dark}
use Rattle.crash.specs.Pair.{Pair, Act, PerformedPair, RanPair, CutPair, PairAccepts}

-- all the acts were performed; or a device turned dark in place of one of them, and that is the refusal
abbrev pub RanOrCut : {V : Type 0} → Pair → List Act → Result V Refusal → Pair → Type 0
RanOrCut m acts (Ok v) n = PerformedPair m acts n
RanOrCut m acts (Err e) n = (e ≡ Dark) × CutPair m acts n

-- Acts that neither device can refuse but for darkness end so.
abbrev pub AcceptedActsEndOrAreCut : Type 0
AcceptedActsEndOrAreCut = (acts : List Act) (m n : Pair) (r : Result (Unit {0}) Refusal) → PairAccepts m acts → RanPair m acts r n → RanOrCut m acts r n
