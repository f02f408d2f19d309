-- The commits of a run, told from its events alone, in order: whole, accepted or cut by power. Assumes nothing.
use Rattle.std.specs.Prelude.{◌≡◌, ℕ, ◌+◌, ◌<◌, Bool, true, false, cond, not, ◌&&◌, List, [], ◌∷◌, ◌++◌, ◌==◌}
use Rattle.refusal.specs.Numbers.{number_of}
use Rattle.ringlaws.specs.Layout.{records_of}
use Rattle.ringlaws.specs.TxnInfo.{Transaction}
use Rattle.ringlaws.specs.Newest.{laid}
use Rattle.calls.specs.declared.call.Call.{Call}
use Rattle.calls.specs.declared.call.Call.TheVariants.{Format, Mount, Begin, Set, Clear, Read, Commit, Abandon, Checkpoint, Close}
use Rattle.calls.specs.declared.answer.Answer.{Answer}
use Rattle.calls.specs.declared.answer.Answer.TheVariants.{Refused, Done, Used, Blocks, Absent, Found}
use Rattle.calls.specs.Table.{zero_unit}
use Rattle.calls.specs.Plans.{Kind, put, added}
use Rattle.book.specs.Book.{is_commit}
use Rattle.book.specs.Runs.{Event, called, restart}

abbrev pub is_accepted : {R : Type 0} → Answer R → Bool
is_accepted (Refused e) = false
is_accepted Done = true
is_accepted (Used n) = true
is_accepted (Blocks n) = true
is_accepted Absent = true
is_accepted (Found x) = true

-- the answer 5
abbrev pub is_darkness : {R : Type 0} → Answer R → Bool
is_darkness (Refused e) = number_of e == 5
is_darkness Done = false
is_darkness (Used n) = false
is_darkness (Blocks n) = false
is_darkness Absent = false
is_darkness (Found x) = false

-- the settings of the open transaction after an accepted call
abbrev pub settings_after : {R : Type 0} → Kind R → Transaction → Call R → Transaction
settings_after kind t Format = []
settings_after kind t Mount = t
settings_after kind t Begin = t
settings_after kind t (Set r x) = put t r (kind.unit x)
settings_after kind t (Clear r) = put t r zero_unit
settings_after kind t (Read r) = t
settings_after kind t Commit = []
settings_after kind t Abandon = []
settings_after kind t Checkpoint = t
settings_after kind t Close = t

-- a commit was accepted, or cut by power
pub data Fate : Type 0 where
  done cutOff : Fate

-- How far a run has come: the settings of its open transaction, whether it has met a 5 since the last restart, and its commits so
-- far, each with its settings; and the accepted commits of a mounted store that lie in the ring since it was last emptied, but for
-- empty ones. The newest is last.
pub record Tally : Type 0 where
  pub running : Transaction
  pub dark : Bool
  pub commits : List (Fate × Transaction)
  pub lying : List Transaction

abbrev pub no_tally : Tally
no_tally = record { running = []; dark = false; commits = []; lying = [] }

-- a transaction that takes places in the ring, at the end of a list
abbrev pub and_nonempty : List Transaction → Transaction → List Transaction
and_nonempty ts [] = ts
and_nonempty ts (s ∷ t) = ts ++ (s ∷ t) ∷ []

-- an accepted mount, checkpoint or close empties the ring, an accepted commit fills it
abbrev pub lying_after : {R : Type 0} → Tally → Call R → List Transaction
lying_after t Format = []
lying_after t Mount = []
lying_after t Begin = t.lying
lying_after t (Set r x) = t.lying
lying_after t (Clear r) = t.lying
lying_after t (Read r) = t.lying
lying_after t Commit = and_nonempty t.lying t.running
lying_after t Abandon = t.lying
lying_after t Checkpoint = []
lying_after t Close = []

-- a commit joins the commits, with its fate
abbrev pub commits_after : {R : Type 0} → Fate → Tally → Call R → List (Fate × Transaction)
commits_after fate t call = cond (is_commit call) (t.commits ++ (fate, t.running) ∷ []) t.commits

-- an accepted call counts as what it does; the first 5 since the last restart makes the tally dark and cuts a commit that answers
-- it; other refusals count for nothing
abbrev pub tally_call : {R : Type 0} → Kind R → Tally → Call R → Answer R → Tally
tally_call kind t call a =
    cond (is_accepted a)
    (record { running = settings_after kind t.running call; dark = t.dark; commits = commits_after done t call; lying = lying_after t call })
    (cond (is_darkness a && not t.dark)
    (record { running = t.running; dark = true; commits = commits_after cutOff t call; lying = t.lying })
    t)

-- a restart ends the open transaction and the darkness; a mount empties the ring before the next commit can look at it
abbrev pub tally_event : {R : Type 0} → Kind R → Tally → Event R → Tally
tally_event kind t (called call a) = tally_call kind t call a
tally_event kind t restart = record { running = []; dark = false; commits = t.commits; lying = t.lying }

unfoldable pub tally_from : {R : Type 0} → Kind R → Tally → List (Event R) → Tally
tally_from kind t [] = t
tally_from kind t (e ∷ es) = tally_from kind (tally_event kind t e) es

-- the tally of the events since a format
abbrev pub tally : {R : Type 0} → Kind R → List (Event R) → Tally
tally kind es = tally_from kind no_tally es

-- the places that transactions take in the ring
unfoldable pub places_taken : List Transaction → ℕ
places_taken [] = 0
places_taken (t ∷ ts) = added t + places_taken ts

-- `kept` is what is left of the commits where some that were cut are left out: each of the others is there, whole and in its turn
pub data Kept : List (Fate × Transaction) → List Transaction → Type 0 where
  none : Kept [] []
  takes : {fate : Fate} {t : Transaction} {cs : List (Fate × Transaction)} {ts : List Transaction} → Kept cs ts → Kept ((fate, t) ∷ cs) (t ∷ ts)
  leaves : {t : Transaction} {cs : List (Fate × Transaction)} {ts : List Transaction} → Kept cs ts → Kept ((cutOff, t) ∷ cs) ts

-- The units are the commits laid over zero units in their order; only cut ones may be left out.
pub record WholeAndInOrder (B : ℕ) (commits : List (Fate × Transaction)) (units : ℕ → List ℕ) : Type 0 where
  pub there : List Transaction
  pub kept : Kept commits there
  pub same : (r : ℕ) → r < records_of B → units r ≡ laid there (λ _. zero_unit) r
