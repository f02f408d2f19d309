-- How a machine and its book go together: with power, and while it is dark.
use Rattle.std.proofs.Common.{◌≡◌, ℕ, true, false, ◌⊎◌, List, [], ◌∷◌, ◌++◌, unwrap_or, sym, ap, ◌∙◌}
use Rattle.crash.specs.Pair.{Pair, is_dark, PairRestarted}
use Rattle.ringlaws.specs.TxnInfo.{Transaction}
use Rattle.ringlaws.specs.Newest.{setting_of, lay}
use Rattle.calls.specs.declared.state.State.{State}
use Rattle.calls.specs.declared.state.State.TheVariants.{Unmounted}
use Rattle.calls.specs.declared.call.Call.{Call}
use Rattle.calls.specs.declared.answer.Answer.{Answer}
use Rattle.calls.specs.Table.{zero_unit}
use Rattle.calls.specs.Plans.{Machine, Kind, places_of, blocks_of}
use Rattle.calllaws.specs.Holds.{Keeps}
use Rattle.calllaws.proofs.Commits.{laid_push}
use Rattle.book.specs.Book.{Book, next}
use Rattle.book.specs.Commits.{Fate, cutOff, Tally, tally_call, Kept, none, takes, leaves, WholeAndInOrder}
use Rattle.book.specs.Promise.{Right}
use Rattle.book.proofs.Goods.{Readable, EachReadable, Good}

-- a book with power
abbrev pub live : (ℕ → List ℕ) → State → Transaction → Book
live units s l = record { units = units; list = l; state = s; dark = false; cut = false }

-- a tally with power
abbrev pub tallied : Transaction → List (Fate × Transaction) → List Transaction → Tally
tallied l cs ly = record { running = l; dark = false; commits = cs; lying = ly }

-- with power: the book and the tally have the machine's state and settings, and the devices keep the book's units; what lies in
-- the ring of a mounted store is what the tally says
pub record Live {R : Type 0} (kind : Kind R) (N B : ℕ) (m : Machine) (b : Book) (t : Tally) : Type 0 where
  pub lit : is_dark m.devices ≡ false
  pub units : ℕ → List ℕ
  pub book : b ≡ live units m.state m.list
  pub ring : List Transaction
  pub keeps : Keeps N B m.devices ring units
  pub cs : List (Fate × Transaction)
  pub ly : List Transaction
  pub tally : t ≡ tallied m.list cs ly
  pub lying : (m.state ≡ Unmounted → ⊥) → ring ≡ ly
  pub good : Good kind B m.list
  pub readable : (r : ℕ) → Readable kind (units r)
  pub commits : WholeAndInOrder B cs units

-- while it is dark: whatever the devices come back as keeps the book's units, or these with a cut commit's settings laid over
pub record Gone {R : Type 0} (kind : Kind R) (N B : ℕ) (m : Machine) (b : Book) (t : Tally) : Type 0 where
  pub out : is_dark m.devices ≡ true
  pub book : b.dark ≡ true
  pub blocks : blocks_of m ≡ B
  pub back : (p : Pair) → PairRestarted m.devices p
      → (ts : List Transaction) × (Keeps N B p ts b.units ⊎ ((b.cut ≡ true) × Keeps N B p ts (lay b.list b.units)))
  pub good : EachReadable kind b.list
  pub readable : (r : ℕ) → Readable kind (b.units r)
  pub dark : t.dark ≡ true
  pub without : WholeAndInOrder B t.commits b.units
  pub with_it : b.cut ≡ true → WholeAndInOrder B t.commits (lay b.list b.units)

pub data Follows {R : Type 0} (kind : Kind R) (N B : ℕ) (m : Machine) (b : Book) (t : Tally) : Type 0 where
  lives : Live kind N B m b t → Follows kind N B m b t
  gone : Gone kind N B m b t → Follows kind N B m b t

-- what a call owes: an answer that is right by the book, and that the book follows
abbrev pub Owes : {R : Type 0} → Kind R → ℕ → ℕ → Machine → Book → Tally → Call R → Machine → Answer R → Type 0
Owes kind N B m b t call n a =
    Right kind (places_of m) (blocks_of m) b t.lying call a × Follows kind N B n (next kind b call a) (tally_call kind t call a)

kept_takes : (fate : Fate) (t : Transaction) {cs : List (Fate × Transaction)} {ts : List Transaction} → Kept cs ts → Kept (cs ++ (fate, t) ∷ []) (ts ++ t ∷ [])
kept_takes fate t none = takes none
kept_takes fate t (takes k) = takes (kept_takes fate t k)
kept_takes fate t (leaves k) = leaves (kept_takes fate t k)

kept_leaves : (t : Transaction) {cs : List (Fate × Transaction)} {ts : List Transaction} → Kept cs ts → Kept (cs ++ (cutOff, t) ∷ []) ts
kept_leaves t none = leaves none
kept_leaves t (takes k) = takes (kept_leaves t k)
kept_leaves t (leaves k) = leaves (kept_leaves t k)

-- one commit more lies whole in its turn; one that was cut may be left out
pub commit_takes : (B : ℕ) (fate : Fate) (t : Transaction) (cs : List (Fate × Transaction)) (units : ℕ → List ℕ)
    → WholeAndInOrder B cs units → WholeAndInOrder B (cs ++ (fate, t) ∷ []) (lay t units)
commit_takes B fate t cs units w = record {
  there = w.there ++ t ∷ [];
  kept = kept_takes fate t w.kept;
  same = λ r h. ap (unwrap_or (setting_of t r)) (w.same r h) ∙ sym (laid_push w.there t (λ _. zero_unit) r);
}

pub commit_leaves : (B : ℕ) (t : Transaction) (cs : List (Fate × Transaction)) (units : ℕ → List ℕ)
    → WholeAndInOrder B cs units → WholeAndInOrder B (cs ++ (cutOff, t) ∷ []) units
commit_leaves B t cs units w = record { there = w.there; kept = kept_leaves t w.kept; same = w.same }
