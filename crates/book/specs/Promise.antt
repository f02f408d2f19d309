-- What is promised of every run of a store, from an accepted format on. Assumes nothing.
use Rattle.std.specs.Prelude.{◌≡◌, ℕ, ◌+◌, ◌-◌, Bool, true, false, cond, not, ◌&&◌, ◌⊎◌, List, length, replicate, Some, None, Option, ◌≢◌, nat_lt}
use Rattle.refusal.specs.declared.reason.Refusal.{Refusal}
use Rattle.refusal.specs.declared.reason.Refusal.TheVariants.{Dark, RingFull, ForeignUnit}
use Rattle.ringlaws.specs.TxnInfo.{Transaction}
use Rattle.calls.specs.declared.state.State.TheVariants.{Unmounted}
use Rattle.calls.specs.declared.call.Call.{Call}
use Rattle.calls.specs.declared.call.Call.TheVariants.{Format, Mount, Begin, Set, Clear, Read, Commit, Abandon, Checkpoint, Close}
use Rattle.calls.specs.declared.answer.Answer.{Answer}
use Rattle.calls.specs.declared.answer.Answer.TheVariants.{Refused, Done, Used, Blocks}
use Rattle.calls.specs.Acts.{named_blocks}
use Rattle.calls.specs.Judge.{judge}
use Rattle.calls.specs.Plans.{Machine, Kind, places_of, blocks_of, set_refusal, added}
use Rattle.calls.specs.Steps.{Step}
use Rattle.order.specs.Order.{EndsThere}
use Rattle.book.specs.Book.{Book, blank, book_read}
use Rattle.book.specs.Runs.{Event, Run, is_format}
use Rattle.book.specs.Commits.{tally, places_taken, WholeAndInOrder}

-- the laws of a record kind; a unit has 32 words
pub record Lawful {R : Type 0} (kind : Kind R) : Type 0 where
  pub whole : (x : R) → length (kind.unit x) ≡ 32
  pub nonzero : (x : R) → kind.unit x ≢ replicate 32 0
  pub back : (x : R) → kind.reads (kind.unit x) ≡ Some x
  pub only : (u : List ℕ) (x : R) → kind.reads u ≡ Some x → u ≡ kind.unit x

-- a refusal, or done
abbrev pub done_unless : {R : Type 0} → Option Refusal → Answer R
done_unless None = Done
done_unless (Some e) = Refused e

-- the ring of N places has no room for one more transaction beside those that lie in it
abbrev pub no_room : ℕ → List Transaction → Transaction → Bool
no_room N lying t = nat_lt 0 (length t) && nat_lt (N - 1) (places_taken lying + added t)

-- What the book knows of the answer to a call that its state lets through, on N places and B blocks, with these transactions
-- lying in the ring. A mount is accepted; how many blocks it writes depends on what came back.
abbrev pub Expected : {R : Type 0} → Kind R → ℕ → ℕ → Book → List Transaction → Call R → Answer R → Type 0
Expected kind N B b lying Format a = a ≡ Done
Expected kind N B b lying Mount a = (n : ℕ) × (a ≡ Blocks n)
Expected kind N B b lying Begin a = a ≡ Done
Expected kind N B b lying (Set r x) a = a ≡ done_unless (set_refusal B b.list r)
Expected kind N B b lying (Clear r) a = a ≡ done_unless (set_refusal B b.list r)
Expected kind N B b lying (Read r) a = a ≡ book_read kind B b r
Expected kind N B b lying Commit a = a ≡ cond (no_room N lying b.list) (Refused RingFull) (Used (places_taken lying + added b.list))
Expected kind N B b lying Abandon a = a ≡ Done
Expected kind N B b lying Checkpoint a = a ≡ Blocks (named_blocks B lying)
Expected kind N B b lying Close a = a ≡ Done

abbrev pub ByState : {R : Type 0} → Kind R → ℕ → ℕ → Book → List Transaction → Option Refusal → Call R → Answer R → Type 0
ByState kind N B b lying (Some e) call a = a ≡ Refused e
ByState kind N B b lying None call a = Expected kind N B b lying call a

-- Whether a call that the state lets through makes device acts: format and mount always; a commit if it has settings and there is
-- room for them; a checkpoint and a close if transactions lie in the ring; the others never.
abbrev pub makes_acts : {R : Type 0} → ℕ → Book → List Transaction → Call R → Bool
makes_acts N b lying Format = true
makes_acts N b lying Mount = true
makes_acts N b lying Begin = false
makes_acts N b lying (Set r x) = false
makes_acts N b lying (Clear r) = false
makes_acts N b lying (Read r) = false
makes_acts N b lying Commit = nat_lt 0 (length b.list) && not (no_room N lying b.list)
makes_acts N b lying Abandon = false
makes_acts N b lying Checkpoint = nat_lt 0 (length lying)
makes_acts N b lying Close = nat_lt 0 (length lying)

-- The answer is right by the book: 5 if the book is dark; else the state's refusal or what the book expects; or 5 because power
-- failed at an act of the call, which the state lets through and which makes acts. No other call answers 5.
abbrev pub Right : {R : Type 0} → Kind R → ℕ → ℕ → Book → List Transaction → Call R → Answer R → Type 0
Right kind N B b lying call a =
    ((b.dark ≡ true) × (a ≡ Refused Dark))
    ⊎ ((b.dark ≡ false) × ByState kind N B b lying (judge b.state call) call a)
    ⊎ ((b.dark ≡ false) × (judge b.state call ≡ None) × (makes_acts N b lying call ≡ true) × (a ≡ Refused Dark))

-- The promise after a run with these events.
pub record Promised {R : Type 0} (kind : Kind R) (es : List (Event R)) (m : Machine) (b : Book) : Type 0 where
  -- every next call, whatever it is and however power fails, is answered right by the book
  pub answers : (call : Call R) (a : Answer R) (n : Machine) → is_format call ≡ false → Step kind m call a n
      → Right kind (places_of m) (blocks_of m) b (tally kind es).lying call a
  -- and so is a further format
  pub formats : (a : Answer R) (n : Machine) → Step kind m Format a n → Right kind (places_of m) (blocks_of m) b (tally kind es).lying Format a
  -- every read answers exactly as the book does
  pub reads : (r : ℕ) (a : Answer R) (n : Machine) → Step kind m (Read r) a n → a ≡ book_read kind (blocks_of m) b r
  -- no read of the book meets a unit that is not of the kind
  pub readable : (r : ℕ) → book_read kind (blocks_of m) b r ≢ Refused ForeignUnit
  -- a mount of an unmounted store is accepted or answers 5
  pub mounts : m.state ≡ Unmounted → (a : Answer R) (n : Machine) → Step kind m Mount a n → ((k : ℕ) × (a ≡ Blocks k)) ⊎ (a ≡ Refused Dark)
  -- the book's units are the commits since the format, whole and in order, of which only cut ones may be missing
  pub commits : WholeAndInOrder (blocks_of m) (tally kind es).commits b.units

-- An accepted format, on devices with any contents (beyond their sizes there is nothing to settle, as every device promises); then
-- any list of calls and restarts.
abbrev pub EveryRunKeepsTheBook : {R : Type 0} → Kind R → Type 0
EveryRunKeepsTheBook {R} kind =
    (m₀ m₁ : Machine) → EndsThere m₀ → Step kind m₀ Format Done m₁
    → (es : List (Event R)) (m : Machine) (b : Book) → Run kind m₁ blank es m b → Promised kind es m b
