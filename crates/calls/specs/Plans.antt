-- What each call does, from the contents that it finds: its device acts, its answer, and the state and the transaction after it.
-- Assumes nothing.
use Rattle.std.specs.Prelude.{ℕ, ◌+◌, ◌-◌, Bool, false, cond, ◌&&◌, ◌||◌, List, [], ◌∷◌, ◌++◌, length, Some, None, Option, ◌==◌, nat_le, nat_lt}
use Rattle.refusal.specs.declared.reason.Refusal.{Refusal}
use Rattle.refusal.specs.declared.reason.Refusal.TheVariants.{BadSize, NoGroundMark, BadHeader, UnsoundRing, NoSuchRecord, TooManyRecords, RingFull, ForeignUnit}
use Rattle.device.specs.Words.{words_of}
use Rattle.device.specs.Sectors.{sectors_of}
use Rattle.crash.specs.Pair.{Pair, Act, settling_both}
use Rattle.ringlaws.specs.Layout.{Contents, ground_mark, ground_word, places_word, blocks_word, head_of, tail_of, least_places, most_places, most_blocks, used, records_of}
use Rattle.ringlaws.specs.TxnInfo.{Transaction, numbers_of, count_limit, taken, member, all_zero}
use Rattle.ringlaws.specs.Sound.{Verdict, spelled, bad_at, step_back}
use Rattle.ringlaws.specs.Newest.{lay}
use Rattle.calls.specs.declared.state.State.{State}
use Rattle.calls.specs.declared.state.State.TheVariants.{Unmounted, Idle, Open}
use Rattle.calls.specs.declared.call.Call.{Call}
use Rattle.calls.specs.declared.call.Call.TheVariants.{Format, Mount, Begin, Set, Clear, Read, Commit, Abandon, Checkpoint, Close}
use Rattle.calls.specs.declared.answer.Answer.{Answer}
use Rattle.calls.specs.declared.answer.Answer.TheVariants.{Refused, Done, Used, Blocks, Absent, Found}
use Rattle.calls.specs.Table.{ring_of, table, zero_unit}
use Rattle.calls.specs.Acts.{format_acts, commit_acts, checkpoint_acts, named_blocks}
use Rattle.calls.specs.Judge.{judge}

-- A store as the definitions see it, a machine: its two devices, its state, and the settings of its open transaction in the
-- order in which they were first set.
pub record Machine : Type 0 where
  pub devices : Pair
  pub state : State
  pub list : Transaction

-- N and B, by the sizes of the devices; their present contents
abbrev pub places_of : Machine → ℕ
places_of m = m.devices.nvm.size - 1

abbrev pub blocks_of : Machine → ℕ
blocks_of m = m.devices.disk.size

abbrev pub words : Machine → Contents
words m = words_of m.devices.nvm

abbrev pub sectors : Machine → ℕ → List ℕ
sectors m = sectors_of m.devices.disk

-- the transactions in the ring, and the table
abbrev pub ring : Machine → List Transaction
ring m = ring_of (places_of m) (blocks_of m) (words m)

abbrev pub table_of : Machine → ℕ → List ℕ
table_of m = table (ring m) (sectors m)

-- How a kind of record is written and read.
pub record Kind (R : Type 0) : Type 0 where
  pub unit : R → List ℕ
  pub reads : List ℕ → Option R

pub record Plan (R : Type 0) : Type 0 where
  pub acts : List Act
  pub answer : Answer R
  pub state : State
  pub list : Transaction

-- the call is refused: nothing is done, and nothing changes
abbrev pub refusing : {R : Type 0} → Machine → Refusal → Plan R
refusing m e = record { acts = []; answer = Refused e; state = m.state; list = m.list }

-- 33 to 256 units, which are a ring of 32 to 255 places and unit 0; 1 to 4,096 blocks
abbrev pub fit_sizes : ℕ → ℕ → Bool
fit_sizes units blocks = (nat_lt least_places units && nat_le units (most_places + 1)) && (nat_le 1 blocks && nat_le blocks most_blocks)

-- unit 0 has the sizes of the devices, and head and tail are places
abbrev pub fit_header : ℕ → ℕ → Contents → Bool
fit_header N B c = (c places_word == N && c blocks_word == B) && (nat_lt (head_of c) N && nat_lt (tail_of c) N)

-- an unsound ring is refused with the place of the first bad TxnInfo met
abbrev pub damage : Verdict → Option Refusal
damage (spelled ts) = None
damage (bad_at place) = Some (UnsoundRing place)

-- why the contents are not mounted, in this order: no ground mark, a wrong header, an unsound ring
abbrev pub mount_refusal : ℕ → ℕ → Contents → Option Refusal
mount_refusal N B c =
    cond (c ground_word == ground_mark)
    (cond (fit_header N B c) (damage (step_back N B c (head_of c) (tail_of c))) (Some BadHeader))
    (Some NoGroundMark)

-- the settings with record r at this unit: set again, it keeps its position
unfoldable pub put : Transaction → ℕ → List ℕ → Transaction
put [] r u = record { number = r; unit = u } ∷ []
put (s ∷ t) r u = cond (r == s.number) (record { number = r; unit = u } ∷ t) (s ∷ put t r u)

-- record r is set already, or fewer than 30 others are
abbrev pub may_put : Transaction → ℕ → Bool
may_put t r = member r (numbers_of t) || nat_lt (length t) count_limit

-- why record r is not set in a transaction on a disk of B blocks, in this order: no such record, 30 others are set already
abbrev pub set_refusal : ℕ → Transaction → ℕ → Option Refusal
set_refusal B t r = cond (nat_lt r (records_of B)) (cond (may_put t r) None (Some TooManyRecords)) (Some NoSuchRecord)

-- there is no room in a ring of N places for a transaction: one place always stays free; an empty transaction needs no room
abbrev pub is_full : ℕ → Contents → Transaction → Bool
is_full N c [] = false
is_full N c (s ∷ t) = nat_lt (N - 1) (used N c + taken (length (s ∷ t)))

-- the places that a transaction adds to the used ones
abbrev pub added : Transaction → ℕ
added [] = 0
added (s ∷ t) = taken (length (s ∷ t))

-- what a read answers, by the record's unit: absent if it is zero, else the record that it reads as, if it does
abbrev pub read_by : {R : Type 0} → Option R → Answer R
read_by None = Refused ForeignUnit
read_by (Some x) = Found x

abbrev pub read_unit : {R : Type 0} → Kind R → List ℕ → Answer R
read_unit kind u = cond (all_zero u) Absent (read_by (kind.reads u))

-- The plan of each call that the state lets through.
module _ {R : Type 0} (kind : Kind R) (m : Machine) where
  abbrev pub format_plan : Plan R
  format_plan =
      cond (fit_sizes m.devices.nvm.size (blocks_of m))
      (record { acts = format_acts (places_of m) (blocks_of m); answer = Done; state = Unmounted; list = [] })
      (refusing m BadSize)

  -- its refusals by the contents come after everything was settled, which changes no present contents
  abbrev pub mount_by : Option Refusal → Plan R
  mount_by (Some e) = record { acts = settling_both m.devices.nvm.size; answer = Refused e; state = Unmounted; list = m.list }
  mount_by None = record {
    acts = settling_both m.devices.nvm.size ++ checkpoint_acts (blocks_of m) (words m) (ring m) (sectors m);
    answer = Blocks (named_blocks (blocks_of m) (ring m));
    state = Idle;
    list = m.list;
  }

  abbrev pub mount_plan : Plan R
  mount_plan =
      cond (fit_sizes m.devices.nvm.size (blocks_of m)) (mount_by (mount_refusal (places_of m) (blocks_of m) (words m))) (refusing m BadSize)

  abbrev pub set_by : Option Refusal → ℕ → List ℕ → Plan R
  set_by (Some e) r u = refusing m e
  set_by None r u = record { acts = []; answer = Done; state = m.state; list = put m.list r u }

  abbrev pub set_plan : ℕ → List ℕ → Plan R
  set_plan r u = set_by (set_refusal (blocks_of m) m.list r) r u

  -- the transaction's own settings come first
  abbrev pub read_plan : ℕ → Plan R
  read_plan r =
      cond (nat_lt r (records_of (blocks_of m)))
      (record { acts = []; answer = read_unit kind (lay m.list (table_of m) r); state = m.state; list = m.list })
      (refusing m NoSuchRecord)

  abbrev pub commit_plan : Plan R
  commit_plan =
      cond (is_full (places_of m) (words m) m.list) (refusing m RingFull)
      (record {
        acts = commit_acts (places_of m) (words m) m.list;
        answer = Used (used (places_of m) (words m) + added m.list);
        state = Idle;
        list = [];
      })

  -- a checkpoint and then this answer and state; an open transaction is kept
  abbrev pub checkpoint_plan : Answer R → State → Plan R
  checkpoint_plan a s =
      record { acts = checkpoint_acts (blocks_of m) (words m) (ring m) (sectors m); answer = a; state = s; list = m.list }

  abbrev pub admitted : Call R → Plan R
  admitted Format = format_plan
  admitted Mount = mount_plan
  admitted Begin = record { acts = []; answer = Done; state = Open; list = m.list }
  admitted (Set r x) = set_plan r (kind.unit x)
  admitted (Clear r) = set_plan r zero_unit
  admitted (Read r) = read_plan r
  admitted Commit = commit_plan
  admitted Abandon = record { acts = []; answer = Done; state = Idle; list = [] }
  admitted Checkpoint = checkpoint_plan (Blocks (named_blocks (blocks_of m) (ring m))) m.state
  admitted Close = checkpoint_plan Done Unmounted

  -- the state's refusal comes first
  abbrev pub plan_by : Option Refusal → Call R → Plan R
  plan_by (Some e) call = refusing m e
  plan_by None call = admitted call

  abbrev pub plan_of : Call R → Plan R
  plan_of call = plan_by (judge m.state call) call
