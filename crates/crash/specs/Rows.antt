-- The lists of acts that calls are made of, and when such lists are phases. Assumes nothing.
use Rattle.std.specs.Prelude.{◌≡◌, ℕ, ◌+◌, ◌*◌, ◌/◌, ◌<◌, Bool, true, false, cond, ◌&&◌, List, [], ◌∷◌, ◌++◌, length, ◌==◌, nat_le, nat_lt, slice_index}
use Rattle.device.specs.Words.{NvmAct, Store, Flush, Fence, nvm_rules}
use Rattle.device.specs.Sectors.{DiskAct, Write, Sync, disk_rules}
use Rattle.crash.specs.Runs.{each_of, Each, some}
use Rattle.crash.specs.Acts.{Spares}
use Rattle.crash.specs.Keeping.{nvm_keeps, disk_keeps, kept, Phase}

-- the stores of a row of words from the word x on
abbrev pub storing : ℕ → List ℕ → List NvmAct
storing x words = each_of (λ i. Store (x + i) (slice_index words i) ∷ []) (length words)

-- the flushes of k lines from the line l on
abbrev pub flushing : ℕ → ℕ → List NvmAct
flushing l k = each_of (λ i. Flush (l + i) ∷ []) k

-- the word t stored as v and made to last
abbrev pub sealing : ℕ → ℕ → List NvmAct
sealing t v = Store t v ∷ Flush (t / 8) ∷ Fence ∷ []

-- the flushes of all lines of a memory of u units, and a fence
abbrev pub settling : ℕ → List NvmAct
settling u = flushing 0 (4 * u) ++ Fence ∷ []

-- w is one of the numbers from, .., to - 1
abbrev pub inside : ℕ → ℕ → ℕ → Bool
inside from to w = nat_le from w && nat_lt w to

-- whether an act gives the word w a new value, flushes the line l, gives the block b new contents
abbrev pub nvm_touches : NvmAct → ℕ → Bool
nvm_touches (Store x v) w = w == x
nvm_touches (Flush l) w = false
nvm_touches Fence w = false

abbrev pub nvm_flushes : NvmAct → ℕ → Bool
nvm_flushes (Store x v) l = false
nvm_flushes (Flush k) l = l == k
nvm_flushes Fence l = false

abbrev pub disk_touches : DiskAct → ℕ → Bool
disk_touches (Write x words) b = b == x
disk_touches Sync b = false

-- whether some act of a list does
abbrev pub stores_word : ℕ → List NvmAct → Bool
stores_word w = some (λ a. nvm_touches a w)

abbrev pub flushes_line : ℕ → List NvmAct → Bool
flushes_line l = some (λ a. nvm_flushes a l)

abbrev pub writes_block : ℕ → List DiskAct → Bool
writes_block b = some (λ a. disk_touches a b)

-- nothing is touched twice
abbrev pub Once : {A : Type 0} → (A → ℕ → Bool) → List A → Type 0
Once touches [] = Unit {0}
Once touches (a ∷ more) = ((i : ℕ) → touches a i ≡ true → some (λ x. touches x i) more ≡ false) × Once touches more

-- a store or a flush within a memory of u units, a write within a disk of u blocks
abbrev pub StoreWithin : ℕ → NvmAct → Type 0
StoreWithin u (Store x v) = x < 32 * u
StoreWithin u (Flush l) = ⊥
StoreWithin u Fence = ⊥

abbrev pub FlushWithin : ℕ → NvmAct → Type 0
FlushWithin u (Store x v) = ⊥
FlushWithin u (Flush l) = l < 4 * u
FlushWithin u Fence = ⊥

abbrev pub WriteWithin : ℕ → DiskAct → Type 0
WriteWithin u (Write b words) = b < u
WriteWithin u Sync = ⊥

-- stores, no word twice; flushes; writes, no block twice
abbrev pub Stores : ℕ → List NvmAct → Type 0
Stores u acts = Each (StoreWithin u) acts × Once nvm_touches acts

abbrev pub Flushes : ℕ → List NvmAct → Type 0
Flushes u = Each (FlushWithin u)

abbrev pub Writes : ℕ → List DiskAct → Type 0
Writes u acts = Each (WriteWithin u) acts × Once disk_touches acts

-- stores, flushes of their lines and a fence are a phase
abbrev pub StoresAreAPhase : Type 0
StoresAreAPhase =
    (u : ℕ) (stores flushes : List NvmAct) (c : ℕ → ℕ)
    → Stores u stores
    → Flushes u flushes
    → ((w : ℕ) → stores_word w stores ≡ true → flushes_line (w / 8) flushes ≡ true)
    → Phase nvm_rules nvm_keeps u c (stores ++ (flushes ++ Fence ∷ [])) (λ w. kept nvm_keeps stores w (c w))

-- writes and a sync are a phase
abbrev pub WritesAreAPhase : Type 0
WritesAreAPhase =
    (u : ℕ) (writes : List DiskAct) (e : ℕ → List ℕ)
    → Writes u writes
    → Phase disk_rules disk_keeps u e (writes ++ Sync ∷ []) (λ s. kept disk_keeps writes s (e s))

-- the sealing of one word is a phase
abbrev pub SealingIsAPhase : Type 0
SealingIsAPhase =
    (u t v : ℕ) (c : ℕ → ℕ) → t < 32 * u → Phase nvm_rules nvm_keeps u c (sealing t v) (λ w. cond (w == t) v (c w))

-- words that no act stores are spared, and so are sectors of blocks that no act writes
abbrev pub UnstoredIsSpared : Type 0
UnstoredIsSpared = (S : ℕ → Bool) (acts : List NvmAct) → ((w : ℕ) → S w ≡ true → stores_word w acts ≡ false) → Spares nvm_rules S acts

abbrev pub UnwrittenIsSpared : Type 0
UnwrittenIsSpared = (S : ℕ → Bool) (acts : List DiskAct) → ((s : ℕ) → S s ≡ true → writes_block (s / 8) acts ≡ false) → Spares disk_rules S acts
