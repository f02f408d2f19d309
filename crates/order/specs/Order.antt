-- A store in order: what holds of every store between calls, whatever its devices held when it was made. Assumes nothing.
use Rattle.std.specs.Prelude.{◌≡◌, ℕ, ◌*◌, ◌≤◌, true, false, List, length, Option, ◌≢◌}
use Rattle.refusal.specs.declared.reason.Refusal.{Refusal}
use Rattle.refusal.specs.declared.reason.Refusal.TheVariants.{Dark}
use Rattle.device.specs.Pieces.{is_unsettled}
use Rattle.device.specs.Words.{words_of}
use Rattle.device.specs.Sectors.{sectors_of}
use Rattle.crash.specs.Pair.{is_dark, PairAccepts}
use Rattle.ringlaws.specs.Layout.{records_of}
use Rattle.ringlaws.specs.TxnInfo.{Transaction, numbers_of, record_units, count_limit, distinct, all_below}
use Rattle.ringlaws.specs.Spells.{Whole}
use Rattle.calls.specs.declared.state.State.TheVariants.{Unmounted}
use Rattle.calls.specs.declared.call.Call.{Call}
use Rattle.calls.specs.declared.answer.Answer.{Answer}
use Rattle.calls.specs.declared.answer.Answer.TheVariants.{Refused}
use Rattle.calls.specs.Plans.{Machine, Kind, places_of, blocks_of, ring, table_of, plan_of}
use Rattle.calls.specs.Steps.{Step, MachineRestarted}
use Rattle.calllaws.specs.Holds.{Keeps}

-- the settings of an open transaction on a disk of B blocks: at most 30, of records of the disk, all different, 32 words each
pub record FairSettings (B : ℕ) (t : Transaction) : Type 0 where
  pub most : length t ≤ count_limit
  pub below : all_below (records_of B) (numbers_of t) ≡ true
  pub apart : distinct (numbers_of t) ≡ true
  pub whole : Whole (record_units t)

-- A mounted store with power has everything settled, a right unit 0 and a sound ring.
pub record InOrder (m : Machine) : Type 0 where
  pub settings : FairSettings (blocks_of m) m.list
  pub mounted : is_dark m.devices ≡ false → (m.state ≢ Unmounted)
      → Keeps (places_of m) (blocks_of m) m.devices (ring m) (table_of m)

-- the devices have nothing to settle beyond their sizes, as every device promises
pub record EndsThere (m : Machine) : Type 0 where
  pub nvm : (w : ℕ) → 32 * m.devices.nvm.size ≤ w → is_unsettled (m.devices.nvm.piece w) ≡ false
  pub disk : (s : ℕ) → 8 * m.devices.disk.size ≤ s → is_unsettled (m.devices.disk.piece s) ≡ false

-- a kind of record from the unit that each record is written as and the record that each unit reads as
abbrev pub kind_of : {R : Type 0} → (R → List ℕ) → (List ℕ → Option R) → Kind R
kind_of unit reads = record { unit = unit; reads = reads }

-- each record is written as a unit of 32 words
abbrev pub WritesUnits : {R : Type 0} → Kind R → Type 0
WritesUnits {R} kind = (x : R) → length (kind.unit x) ≡ 32

-- No act of a call on a store in order is refused but for darkness.
abbrev pub OnlyDarknessStopsCalls : {R : Type 0} → Kind R → Type 0
OnlyDarknessStopsCalls {R} kind =
    (m : Machine) (call : Call R) → InOrder m → EndsThere m → is_dark m.devices ≡ false → PairAccepts m.devices (plan_of kind m call).acts

-- Every call, performed, refused or cut by power, leaves the store in order.
abbrev pub CallsKeepOrder : {R : Type 0} → Kind R → Type 0
CallsKeepOrder {R} kind =
    WritesUnits kind → (m n : Machine) (call : Call R) (a : Answer R) → InOrder m → EndsThere m → Step kind m call a n → InOrder n

-- A refused call, but for darkness, leaves the present contents of both devices as they were.
pub record SameContents (m n : Machine) : Type 0 where
  pub words : (w : ℕ) → words_of n.devices.nvm w ≡ words_of m.devices.nvm w
  pub sectors : (s : ℕ) → sectors_of n.devices.disk s ≡ sectors_of m.devices.disk s

abbrev pub RefusalsChangeNothing : {R : Type 0} → Kind R → Type 0
RefusalsChangeNothing {R} kind =
    (m n : Machine) (call : Call R) (e : Refusal) → EndsThere m → (e ≢ Dark) → Step kind m call (Refused e) n → SameContents m n

-- A restarted store, whatever its devices hold, is in order.
abbrev pub RestartsGiveOrder : Type 0
RestartsGiveOrder = (m n : Machine) → MachineRestarted m n → InOrder n
