-- Acts that give some pieces new values, no piece twice, on a device of any kind. Assumes nothing.
use Rattle.std.proofs.Common.{◌≡◌, ℕ, zero, suc, ◌+◌, ◌*◌, ◌/◌, ◌%◌, ◌<◌, Bool, true, false, cond, ◌||◌, eqb, ◌⊎◌, List, [], ◌∷◌, ◌++◌, sym, refl, ap, ◌∙◌, inl, inr, arith, eq-eqb}
use Rattle.std.proofs.lemmas.Bool.{cases_eq}
use Rattle.device.specs.Pieces.{Piece, settled, unsettled, present_value, is_unsettled}
use Rattle.device.specs.Devices.{Rules}
use Rattle.device.specs.Words.{waiting, NvmAct, Store, Flush, Fence, nvm_rules}
use Rattle.device.specs.Sectors.{waits, DiskAct, Write, Sync, sector_of, any_below, disk_rules}
use Rattle.crash.specs.Runs.{each_of, Each, some}
use Rattle.crash.specs.Acts.{Accepts, Spares}
use Rattle.crash.specs.Keeping.{Tame, nvm_keeps, disk_keeps, kept, Brings}
use Rattle.crash.specs.Rows.{nvm_touches, disk_touches, Once}
use Rattle.crash.proofs.Steps.{settled_is}

pub never : true ≡ false → ⊥
never e = let z : ◌≡◌ {A = ℕ} 0 1 = cc in omega arith

pub or_none : (x y : Bool) → x ≡ false → y ≡ false → x || y ≡ false
or_none x y e h = ap (λ t. t || y) e ∙ h

pub or_first : (x y : Bool) → x ≡ true → x || y ≡ true
or_first x y e = ap (λ t. t || y) e

pub or_second : (x y : Bool) → y ≡ true → x || y ≡ true
or_second true y e = refl
or_second false y e = e

or_left : (x y : Bool) → x || y ≡ false → x ≡ false
or_left true y e = e
or_left false y e = refl

or_right : (x y : Bool) → x || y ≡ false → y ≡ false
or_right true y e = absurd (never e)
or_right false y e = e

or_swap : (x y : Bool) → x || y ≡ y || x
or_swap true true = refl
or_swap true false = refl
or_swap false true = refl
or_swap false false = refl

-- a test of some act, over lists one after another
module _ {A : Type 0} (test : A → Bool) where
  pub some_append : (xs ys : List A) → some test (xs ++ ys) ≡ some test xs || some test ys
  some_append [] ys = refl
  some_append (a ∷ xs) ys = by_test (test a) (some_append xs ys)
    where
      by_test : (t : Bool) → some test (xs ++ ys) ≡ some test xs || some test ys → t || some test (xs ++ ys) ≡ (t || some test xs) || some test ys
      by_test true e = refl
      by_test false e = e

  pub some_each : (f : ℕ → List A) (n : ℕ) → some test (each_of f n) ≡ any_below (λ i. some test (f i)) n
  unfolding each_of any_below
  some_each f zero = refl
  some_each f (suc n) = some_append (each_of f n) (f n) ∙ ap (λ t. t || some test (f n)) (some_each f n) ∙ or_swap (any_below (λ i. some test (f i)) n) (some test (f n))

-- one of the first n tests is true
pub any_none : (f : ℕ → Bool) (n : ℕ) → ((k : ℕ) → k < n → f k ≡ false) → any_below f n ≡ false
unfolding any_below
any_none f zero h = refl
any_none f (suc n) h = or_none (f n) (any_below f n) (h n (omega arith)) (any_none f n (λ k l. h k (omega arith)))

pub any_one : (f : ℕ → Bool) (n : ℕ) → any_below f n ≡ true → (k : ℕ) × (k < n) × (f k ≡ true)
unfolding any_below
any_one f zero e = absurd (never (sym e))
any_one f (suc n) e = by_test (f n) refl e (λ h. any_one f n h)
  where
    by_test : (t : Bool) → f n ≡ t → t || any_below f n ≡ true → (any_below f n ≡ true → (k : ℕ) × (k < n) × (f k ≡ true)) → (k : ℕ) × (k < suc n) × (f k ≡ true)
    by_test true i h rest_of = (n, omega arith, i)
    by_test false i h rest_of = let (k, lt, j) = rest_of h in (k, omega (arith, lt), j)

pub any_some : (f : ℕ → Bool) (n k : ℕ) → k < n → f k ≡ true → any_below f n ≡ true
unfolding any_below
any_some f zero k lt e = absurd (omega arith)
any_some f (suc n) k lt e = elim (cases_eq k n) [
  | inl i ↦ or_first (f n) (any_below f n) (sym (ap f i) ∙ e)
  | inr ne ↦ or_second (f n) (any_below f n) (any_some f n k (omega arith) e)
]

-- `touches a i` says that the act a gives the piece i a new value, whatever it held. An act leaves the settled pieces alone that
-- it does not touch, and only an unsettled piece that it touches can block it.
pub record Touching {Act Mark Value : Type 0} (rules : Rules Act Mark Value) (keeps : Act → ℕ → Value → Value) (touches : Act → ℕ → Bool) : Type 0 where
  pub misses : (a : Act) (i : ℕ) (v : Value) → touches a i ≡ false → rules.makes a i (settled v) ≡ settled v
  pub sets : (a : Act) (i : ℕ) (p q : Value) → touches a i ≡ true → keeps a i p ≡ keeps a i q
  pub frees : (a : Act) (piece : ℕ → Piece Mark Value) → ((i : ℕ) → touches a i ≡ true → is_unsettled (piece i) ≡ false) → rules.blocked piece a ≡ false

module _ {Act Mark Value : Type 0} (rules : Rules Act Mark Value) (keeps : Act → ℕ → Value → Value) (touches : Act → ℕ → Bool)
    (tame : Tame rules keeps) (touching : Touching rules keeps touches) where
  abbrev touched : ℕ → List Act → Bool
  touched i = some (λ a. touches a i)

  keeps_missed : (a : Act) (i : ℕ) (p : Value) → touches a i ≡ false → keeps a i p ≡ p
  keeps_missed a i p e = sym (tame.present a i (settled p)) ∙ ap present_value (touching.misses a i p e)

  -- a piece that is not touched keeps its value; one that is has a value that does not depend on what it held
  pub missed_kept : (acts : List Act) (i : ℕ) (p : Value) → some (λ a. touches a i) acts ≡ false → kept keeps acts i p ≡ p
  missed_kept [] i p e = refl
  missed_kept (a ∷ more) i p e =
      ap (kept keeps more i) (keeps_missed a i p (or_left (touches a i) (touched i more) e)) ∙ missed_kept more i p (or_right (touches a i) (touched i more) e)

  pub touched_kept : (acts : List Act) (i : ℕ) (p q : Value) → some (λ a. touches a i) acts ≡ true → kept keeps acts i p ≡ kept keeps acts i q
  touched_kept [] i p q e = absurd (never (sym e))
  touched_kept (a ∷ more) i p q e = by_test (touches a i) refl e (λ h. touched_kept more i p q h)
    where
      by_test : (t : Bool) → touches a i ≡ t → t || touched i more ≡ true → (touched i more ≡ true → kept keeps more i p ≡ kept keeps more i q)
          → kept keeps more i (keeps a i p) ≡ kept keeps more i (keeps a i q)
      by_test true j h rest_of = ap (kept keeps more i) (touching.sets a i p q j)
      by_test false j h rest_of =
          ap (kept keeps more i) (keeps_missed a i p j) ∙ rest_of h ∙ ap (kept keeps more i) (sym (keeps_missed a i q j))

  -- acts that touch no piece twice bring nothing but what they leave
  brings_ends : (d : ℕ → Value) (acts : List Act) → Once touches acts → ((i : ℕ) (p : Value) → some (λ a. touches a i) acts ≡ true → kept keeps acts i p ≡ d i) → Brings keeps d acts
  brings_ends d [] once ends = tt
  brings_ends d (a ∷ more) (here, once) ends = (now', brings_ends d more once later)
    where
      now' : (i : ℕ) (p : Value) → (keeps a i p ≡ p) ⊎ (keeps a i p ≡ d i)
      now' i p = by_test (touches a i) refl
        where
          by_test : (t : Bool) → touches a i ≡ t → (keeps a i p ≡ p) ⊎ (keeps a i p ≡ d i)
          by_test true j = inr (sym (missed_kept more i (keeps a i p) (here i j)) ∙ ends i p (or_first (touches a i) (touched i more) j))
          by_test false j = inl (keeps_missed a i p j)

      later : (i : ℕ) (p : Value) → some (λ x. touches x i) more ≡ true → kept keeps more i p ≡ d i
      later i p e = by_test (touches a i) refl
        where
          by_test : (t : Bool) → touches a i ≡ t → kept keeps more i p ≡ d i
          by_test true j = absurd (never (sym e ∙ here i j))
          by_test false j = ap (kept keeps more i) (sym (keeps_missed a i p j)) ∙ ends i p (or_second (touches a i) (touched i more) e)

  pub touches_bring : (c : ℕ → Value) (acts : List Act) → Once touches acts → Brings keeps (λ i. kept keeps acts i (c i)) acts
  touches_bring c acts once = brings_ends (λ i. kept keeps acts i (c i)) acts once (λ i p e. touched_kept acts i p (c i) e)

  still_settled : (a : Act) (i : ℕ) (c : Piece Mark Value) → touches a i ≡ false → is_unsettled c ≡ false → is_unsettled (rules.makes a i c) ≡ false
  still_settled a i c e h = ap (λ x. is_unsettled (rules.makes a i x)) (settled_is c h) ∙ ap is_unsettled (touching.misses a i (present_value c) e)

  -- acts within the size that touch only settled pieces, none twice, are accepted
  pub touches_accepted : (u : ℕ) (piece : ℕ → Piece Mark Value) (acts : List Act) → Each (λ a. rules.beyond u a ≡ false) acts → Once touches acts
      → ((i : ℕ) → some (λ a. touches a i) acts ≡ true → is_unsettled (piece i) ≡ false) → Accepts rules u piece acts
  touches_accepted u piece [] within once calm = tt
  touches_accepted u piece (a ∷ more) (in-it, within) (here, once) calm = (
    in-it,
    touching.frees a piece (λ i e. calm i (or_first (touches a i) (touched i more) e)),
    touches_accepted u (λ i. rules.makes a i (piece i)) more within once still,
  )
    where
      still : (i : ℕ) → some (λ x. touches x i) more ≡ true → is_unsettled (rules.makes a i (piece i)) ≡ false
      still i e = by_test (touches a i) refl
        where
          by_test : (t : Bool) → touches a i ≡ t → is_unsettled (rules.makes a i (piece i)) ≡ false
          by_test true j = absurd (never (sym e ∙ here i j))
          by_test false j = still_settled a i (piece i) j (calm i (or_second (touches a i) (touched i more) e))

  -- what is not touched is spared
  pub missed_spared : (S : ℕ → Bool) (acts : List Act) → ((i : ℕ) → S i ≡ true → some (λ a. touches a i) acts ≡ false) → Spares rules S acts
  missed_spared S [] h = tt
  missed_spared S (a ∷ more) h = (
    (λ i e v. touching.misses a i v (or_left (touches a i) (touched i more) (h i e))),
    missed_spared S more (λ i e. or_right (touches a i) (touched i more) (h i e)),
  )

-- lists that touch no piece twice, joined
pub once_join : {Act : Type 0} (touches : Act → ℕ → Bool) (xs ys : List Act) → Once touches xs → Once touches ys
    → ((i : ℕ) → some (λ a. touches a i) xs ≡ true → some (λ a. touches a i) ys ≡ false) → Once touches (xs ++ ys)
once_join touches [] ys h k apart = k
once_join touches (a ∷ xs) ys (here, h) k apart = (
  (λ i e. some_append (λ x. touches x i) xs ys ∙ or_none _ _ (here i e) (apart i (or_first (touches a i) _ e))),
  once_join touches xs ys h k (λ i e. apart i (or_second (touches a i) _ e)),
)

pub once_each : {Act : Type 0} (touches : Act → ℕ → Bool) (f : ℕ → List Act) (n : ℕ) → ((i : ℕ) → i < n → Once touches (f i))
    → ((i j k : ℕ) → i < j → j < n → some (λ a. touches a k) (f i) ≡ true → some (λ a. touches a k) (f j) ≡ false) → Once touches (each_of f n)
unfolding each_of
once_each touches f zero h apart = tt
once_each touches f (suc n) h apart =
    once_join touches (each_of f n) (f n) (once_each touches f n (λ i l. h i (omega arith)) (λ i j k l o. apart i j k l (omega arith))) (h n (omega arith))
    (λ k e. let (i, lt, hit) = any_one (λ i. some (λ a. touches a k) (f i)) n (sym (some_each (λ a. touches a k) f n) ∙ e) in apart i n k lt (omega arith) hit)

-- the two kinds of device
passed : {Mark Value : Type 0} (t : Bool) (c : Piece Mark Value) (v : Value) → t ≡ false → cond t c (settled v) ≡ settled v
passed true c v e = absurd (never e)
passed false c v e = refl

either_way : {Mark Value : Type 0} (t : Bool) (c : Piece Mark Value) → cond t c c ≡ c
either_way true c = refl
either_way false c = refl

set_alike : {Value : Type 0} (t : Bool) (v p q : Value) → t ≡ true → cond t v p ≡ cond t v q
set_alike true v p q e = refl
set_alike false v p q e = absurd (never (sym e))

pub nvm_touching : Touching nvm_rules nvm_keeps nvm_touches
nvm_touching = record { misses = misses; sets = sets; frees = frees }
  where
    misses : (a : NvmAct) (w v : ℕ) → nvm_touches a w ≡ false → nvm_rules.makes a w (settled v) ≡ settled v
    misses (Store x u) w v e = passed (eqb w x) (unsettled waiting v u) v e
    misses (Flush l) w v e = either_way (eqb (w / 8) l) (settled v)
    misses Fence w v e = refl

    sets : (a : NvmAct) (w p q : ℕ) → nvm_touches a w ≡ true → nvm_keeps a w p ≡ nvm_keeps a w q
    sets (Store x u) w p q e = set_alike (eqb w x) u p q e
    sets (Flush l) w p q e = absurd (never (sym e))
    sets Fence w p q e = absurd (never (sym e))

    frees : (a : NvmAct) (word : ℕ → Piece _ ℕ) → ((w : ℕ) → nvm_touches a w ≡ true → is_unsettled (word w) ≡ false) → nvm_rules.blocked word a ≡ false
    frees (Store x u) word h = h x (eq-eqb x x refl)
    frees (Flush l) word h = refl
    frees Fence word h = refl

pub disk_touching : Touching disk_rules disk_keeps (λ a s. disk_touches a (s / 8))
disk_touching = record { misses = misses; sets = sets; frees = frees }
  where
    misses : (a : DiskAct) (s : ℕ) (v : List ℕ) → disk_touches a (s / 8) ≡ false → disk_rules.makes a s (settled v) ≡ settled v
    misses (Write b words) s v e = passed (eqb (s / 8) b) (unsettled waits v (sector_of words (s % 8))) v e
    misses Sync s v e = refl

    sets : (a : DiskAct) (s : ℕ) (p q : List ℕ) → disk_touches a (s / 8) ≡ true → disk_keeps a s p ≡ disk_keeps a s q
    sets (Write b words) s p q e = set_alike (eqb (s / 8) b) (sector_of words (s % 8)) p q e
    sets Sync s p q e = absurd (never (sym e))

    frees : (a : DiskAct) (sector : ℕ → Piece _ (List ℕ)) → ((s : ℕ) → disk_touches a (s / 8) ≡ true → is_unsettled (sector s) ≡ false) → disk_rules.blocked sector a ≡ false
    frees (Write b words) sector h =
        any_none (λ k. is_unsettled (sector (8 * b + k))) 8 (λ k l. let q : (8 * b + k) / 8 ≡ b = omega arith in h (8 * b + k) (eq-eqb ((8 * b + k) / 8) b q))
    frees Sync sector h = refl
