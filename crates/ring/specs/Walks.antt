-- What walking back over a source of words answers, and why it is refused. Assumes nothing.
use Rattle.std.specs.Prelude.{◌≡◌, ℕ, ◌+◌, ◌-◌, true, false, ◌⊎◌, List, [], map, Some, None, Ok, Err, vec_items, Option, Result, Vec}
use Rattle.std.specs.declared.alloc.Global.{Global}
use Rattle.refusal.specs.declared.reason.Refusal.{Refusal}
use Rattle.refusal.specs.declared.reason.Refusal.TheVariants.{Beyond, NoMemory, UnsoundRing}
use Rattle.ringlaws.specs.declared.setting.Setting.{Setting}
use Rattle.ringlaws.specs.Layout.{Contents, before, is_ring}
use Rattle.ringlaws.specs.TxnInfo.{Transaction, taken, count_in, good_info}
use Rattle.ringlaws.specs.Sound.{Verdict, spelled, bad_at, info_before, stepping_back, step_back, SoundBetween}
use Rattle.ringlaws.specs.Newest.{newest}
use Rattle.ringlaws.specs.Laws.{IsTheList}
use Rattle.ring.specs.declared.step.Step.{Step}
use Rattle.ring.specs.Sources.{Reading, Agrees, RefusesWithin}

-- the step from a place over the transaction before it, whose TxnInfo is good
pub record Stepped (reads : Reading) (N B place left : ℕ) (s : Step) : Type 0 where
  pub is_good : good_info B left s.info ≡ true
  pub count : s.count ≡ count_in s.info
  pub first : s.first ≡ before N place (taken (count_in s.info))
  pub rest : s.left ≡ left - taken (count_in s.info)
  pub info : (c : Contents) → Agrees reads c → s.info ≡ info_before N c place

-- no step: the source refused a word, or the unit before the place is no good TxnInfo
abbrev pub NoStep : Reading → ℕ → ℕ → ℕ → ℕ → Refusal → Type 0
NoStep reads N B place left e =
    RefusesWithin reads (N + 1) e
    ⊎ ((e ≡ UnsoundRing (before N place 1)) × ((c : Contents) → Agrees reads c → good_info B left (info_before N c place) ≡ false))

-- where a verdict stopped, if it did
abbrev pub stopped : Verdict → Option ℕ
stopped (spelled ts) = None
stopped (bad_at p) = Some p

-- a walk that has come to a place: whether the whole ring is sound, and where stepping back stops, is decided by what is left
abbrev pub Decides : Reading → ℕ → ℕ → ℕ → ℕ → ℕ → ℕ → Type 0
Decides reads N B head tail place left = (c : Contents) → Agrees reads c → stopped (step_back N B c head tail) ≡ stopped (stepping_back N B c left place left [])

-- why a walk is refused: head or tail is no place of a ring; the source refused a word, and that is handed on; or the ring is
-- unsound, with the place where stepping back stops
pub data WhyRefused (reads : Reading) (N B head tail : ℕ) : Refusal → Type 0 where
  no_ring : is_ring N head tail ≡ false → WhyRefused reads N B head tail Beyond
  handed_on : {e : Refusal} → is_ring N head tail ≡ true → RefusesWithin reads (N + 1) e → WhyRefused reads N B head tail e
  unsound : {p : ℕ} → is_ring N head tail ≡ true → ((c : Contents) → Agrees reads c → step_back N B c head tail ≡ bad_at p) → WhyRefused reads N B head tail (UnsoundRing p)

-- a check: the ring is sound, in all contents that agree with the source
abbrev pub Checks : Reading → ℕ → ℕ → ℕ → ℕ → Result (Unit {0}) Refusal → Type 0
Checks reads N B head tail (Ok done) = (is_ring N head tail ≡ true) × ((c : Contents) → Agrees reads c → SoundBetween N B c head tail)
Checks reads N B head tail (Err e) = WhyRefused reads N B head tail e

-- the transactions in an answer
abbrev pub transactions_in : Vec (Vec Setting Global) Global → List Transaction
transactions_in v = map vec_items (vec_items v)

-- the list of transactions: the one list that the ring spells
abbrev pub Lists : Reading → ℕ → ℕ → ℕ → ℕ → Result (Vec (Vec Setting Global) Global) Refusal → Type 0
Lists reads N B head tail (Ok v) = (is_ring N head tail ≡ true) × ((c : Contents) → Agrees reads c → IsTheList N B c head tail (transactions_in v))
Lists reads N B head tail (Err e) = (e ≡ NoMemory) ⊎ WhyRefused reads N B head tail e

-- the newest place of a record
abbrev pub Finds : Reading → ℕ → ℕ → ℕ → ℕ → Result (Option ℕ) Refusal → Type 0
Finds reads N head tail r (Ok o) = (is_ring N head tail ≡ true) × ((c : Contents) → Agrees reads c → o ≡ newest N c head tail r)
Finds reads N head tail r (Err e) = ((is_ring N head tail ≡ false) × (e ≡ Beyond)) ⊎ ((is_ring N head tail ≡ true) × RefusesWithin reads (N + 1) e)
