-- Both devices at once: a run of the pair is a run of each, and a run of one device is a run of the pair. Assumes nothing.
use Rattle.std.proofs.Common.{◌≡◌, ℕ, Bool, true, false, ◌||◌, List, [], ◌∷◌, ◌++◌, map, Ok, Err, Result, sym, refl, ap, ◌∙◌, subst}
use Rattle.refusal.specs.declared.reason.Refusal.{Refusal}
use Rattle.refusal.specs.declared.reason.Refusal.TheVariants.{Dark}
use Rattle.device.specs.Devices.{Performs, Refuses}
use Rattle.device.specs.Words.{NvmMeaning, NvmAct, nvm_rules}
use Rattle.device.specs.Sectors.{DiskMeaning, DiskAct, disk_rules}
use Rattle.crash.specs.Runs.{done, then, Stopped}
use Rattle.crash.specs.Acts.{PerformedOn, RanOn, Darkens, CutOn, Accepts}
use Rattle.crash.specs.Keeping.{nvm_keeps, disk_keeps}
use Rattle.crash.specs.Pair.{Pair, both, Act, on_nvm, on_disk, is_dark, PairPerforms, PairRefuses, PairDarkens, PerformedPair, RanPair, CutPair, PairRanOrDark, PairAccepts, nvm_part, disk_part}
use Rattle.crash.specs.Phases.{RunsPart, CutsPart, OnlyDarknessStopsBoth}
use Rattle.crash.proofs.Tame.{calmer_self, nvm_is_tame, disk_is_tame}
use Rattle.crash.proofs.Follow.{stops_dark}

pub nvm_append : (xs ys : List Act) → nvm_part (xs ++ ys) ≡ nvm_part xs ++ nvm_part ys
nvm_append [] ys = refl
nvm_append (on_nvm a ∷ xs) ys = ap (λ t. a ∷ t) (nvm_append xs ys)
nvm_append (on_disk a ∷ xs) ys = nvm_append xs ys

pub disk_append : (xs ys : List Act) → disk_part (xs ++ ys) ≡ disk_part xs ++ disk_part ys
disk_append [] ys = refl
disk_append (on_nvm a ∷ xs) ys = disk_append xs ys
disk_append (on_disk a ∷ xs) ys = ap (λ t. a ∷ t) (disk_append xs ys)

-- the parts of acts on one device
pub nvm_own : (acts : List NvmAct) → nvm_part (map on_nvm acts) ≡ acts
nvm_own [] = refl
nvm_own (a ∷ more) = ap (λ t. a ∷ t) (nvm_own more)

pub disk_own : (acts : List DiskAct) → disk_part (map on_disk acts) ≡ acts
disk_own [] = refl
disk_own (a ∷ more) = ap (λ t. a ∷ t) (disk_own more)

pub nvm_none : (acts : List DiskAct) → nvm_part (map on_disk acts) ≡ []
nvm_none [] = refl
nvm_none (a ∷ more) = nvm_none more

pub disk_none : (acts : List NvmAct) → disk_part (map on_nvm acts) ≡ []
disk_none [] = refl
disk_none (a ∷ more) = disk_none more

pub runs_part : RunsPart
runs_part acts m n done = (done, done)
runs_part acts m n (then {p = p} {a = on_nvm a} {more = more} (s, e) r) =
    let (x, y) = runs_part more p n r in
    (then s x, subst (λ (d : DiskMeaning). PerformedOn disk_rules d (disk_part more) n.disk) e y)
runs_part acts m n (then {p = p} {a = on_disk a} {more = more} (s, e) r) =
    let (x, y) = runs_part more p n r in
    (subst (λ (d : NvmMeaning). PerformedOn nvm_rules d (nvm_part more) n.nvm) e x, then s y)

or_true : (x : Bool) → x || true ≡ true
or_true true = refl
or_true false = refl

pub darkens_dark : (a : Act) (m n : Pair) → PairDarkens m a n → is_dark n ≡ true
darkens_dark (on_nvm a) m n (e, h) = ap (λ (k : NvmMeaning). k.dark || n.disk.dark) e
darkens_dark (on_disk a) m n (e, h) = ap (λ (k : DiskMeaning). n.nvm.dark || k.dark) e ∙ or_true n.nvm.dark

-- darkness moves no piece and no size of either device
darkens_nvm : (a : Act) (m n : Pair) → PairDarkens m a n → (n.nvm.size ≡ m.nvm.size) × ((w : ℕ) → n.nvm.piece w ≡ m.nvm.piece w)
darkens_nvm (on_nvm a) m n (e, h) = (ap (λ (k : NvmMeaning). k.size) e, (λ w. ap (λ (k : NvmMeaning). k.piece w) e))
darkens_nvm (on_disk a) m n (e, h) = (ap (λ (k : NvmMeaning). k.size) h, (λ w. ap (λ (k : NvmMeaning). k.piece w) h))

darkens_disk : (a : Act) (m n : Pair) → PairDarkens m a n → (n.disk.size ≡ m.disk.size) × ((s : ℕ) → n.disk.piece s ≡ m.disk.piece s)
darkens_disk (on_nvm a) m n (e, h) = (ap (λ (k : DiskMeaning). k.size) h, (λ s. ap (λ (k : DiskMeaning). k.piece s) h))
darkens_disk (on_disk a) m n (e, h) = (ap (λ (k : DiskMeaning). k.size) e, (λ s. ap (λ (k : DiskMeaning). k.piece s) e))

pub cuts_part : CutsPart
cuts_part acts m n c =
    let (x, y) = runs_part c.front m c.middle c.ran in
    let (nvm-size, nvm-same) = darkens_nvm c.act c.middle n c.stops in
    let (disk-size, disk-same) = darkens_disk c.act c.middle n c.stops in (
      darkens_dark c.act c.middle n c.stops,
      record {
        front = nvm_part c.front;
        back = nvm_part (c.act ∷ c.back);
        parts = ap nvm_part c.parts ∙ nvm_append c.front (c.act ∷ c.back);
        middle = c.middle.nvm;
        ran = x;
        size = nvm-size;
        pieces = nvm-same;
      },
      record {
        front = disk_part c.front;
        back = disk_part (c.act ∷ c.back);
        parts = ap disk_part c.parts ∙ disk_append c.front (c.act ∷ c.back);
        middle = c.middle.disk;
        ran = y;
        size = disk-size;
        pieces = disk-same;
      },
    )

-- an act that its device accepts is refused for darkness alone
refused_dark : (m mid n : Pair) (front : List Act) (a : Act) (back : List Act) (e : Refusal) → PairAccepts m (front ++ a ∷ back) → PerformedPair m front mid
    → PairRefuses mid a e n → (e ≡ Dark) × PairDarkens mid a n
refused_dark m mid n front (on_nvm a) back e acc r (q, same) =
    let (d, i) = stops_dark nvm_rules nvm_keeps nvm_is_tame a (nvm_part back) m.nvm.piece (runs_part front m mid r).0
    (subst (Accepts nvm_rules m.nvm.size m.nvm.piece) (nvm_append front (on_nvm a ∷ back)) acc.nvm) (λ w. calmer_self (m.nvm.piece w)) q
    in
    (d, (i, same))
refused_dark m mid n front (on_disk a) back e acc r (q, same) =
    let (d, i) = stops_dark disk_rules disk_keeps disk_is_tame a (disk_part back) m.disk.piece (runs_part front m mid r).1
    (subst (Accepts disk_rules m.disk.size m.disk.piece) (disk_append front (on_disk a ∷ back)) acc.disk) (λ s. calmer_self (m.disk.piece s)) q
    in
    (d, (i, same))

pub only_darkness_stops_both : OnlyDarknessStopsBoth
only_darkness_stops_both acts m n e acc k =
    let (d, i) = refused_dark m k.middle n k.front k.act k.back e (subst (PairAccepts m) k.parts acc) k.ran k.stops in
    (d, record { front = k.front; act = k.act; back = k.back; parts = k.parts; middle = k.middle; ran = k.ran; stops = i })

pub pair_ran_or_dark : {V : Type 0} (acts : List Act) (m n : Pair) (r : Result V Refusal) → PairAccepts m acts → RanPair m acts r n → PairRanOrDark m acts r n
pair_ran_or_dark acts m n (Ok v) acc h = h
pair_ran_or_dark acts m n (Err e) acc h = only_darkness_stops_both acts m n e acc h

-- acceptance, part by part
pub pair_accepts : (m : Pair) (acts : List Act) (xs : List NvmAct) (ys : List DiskAct) → nvm_part acts ≡ xs → disk_part acts ≡ ys
    → Accepts nvm_rules m.nvm.size m.nvm.piece xs → Accepts disk_rules m.disk.size m.disk.piece ys → PairAccepts m acts
pair_accepts m acts xs ys e h x y = record {
  nvm = subst (Accepts nvm_rules m.nvm.size m.nvm.piece) (sym e) x;
  disk = subst (Accepts disk_rules m.disk.size m.disk.piece) (sym h) y;
}

-- a run of one device is a run of the pair
pub nvm_performed : {acts : List NvmAct} {n k : NvmMeaning} (d : DiskMeaning) → PerformedOn nvm_rules n acts k → PerformedPair (both n d) (map on_nvm acts) (both k d)
nvm_performed d done = done
nvm_performed d (then s r) = then (s, refl) (nvm_performed d r)

pub disk_performed : {acts : List DiskAct} {d k : DiskMeaning} (n : NvmMeaning) → PerformedOn disk_rules d acts k → PerformedPair (both n d) (map on_disk acts) (both n k)
disk_performed n done = done
disk_performed n (then s r) = then (s, refl) (disk_performed n r)

map_parts : {A B : Type 0} (f : A → B) (xs ys : List A) → map f (xs ++ ys) ≡ map f xs ++ map f ys
map_parts f [] ys = refl
map_parts f (x ∷ xs) ys = ap (λ t. f x ∷ t) (map_parts f xs ys)

-- also where it stops
module _ (acts : List NvmAct) (n k : NvmMeaning) (d : DiskMeaning) where
  nvm_stopped : (Stops : NvmMeaning → NvmAct → NvmMeaning → Type 0) (Both : Pair → Act → Pair → Type 0)
      → ((m p : NvmMeaning) (a : NvmAct) → Stops m a p → Both (both m d) (on_nvm a) (both p d))
      → Stopped (Performs nvm_rules) Stops n acts k → Stopped PairPerforms Both (both n d) (map on_nvm acts) (both k d)
  nvm_stopped Stops Both lift h = record {
    front = map on_nvm h.front;
    act = on_nvm h.act;
    back = map on_nvm h.back;
    parts = ap (map on_nvm) h.parts ∙ map_parts on_nvm h.front (h.act ∷ h.back);
    middle = both h.middle d;
    ran = nvm_performed d h.ran;
    stops = lift h.middle k h.act h.stops;
  }

  pub nvm_ran : {V : Type 0} (r : Result V Refusal) → RanOn nvm_rules n acts r k → RanPair (both n d) (map on_nvm acts) r (both k d)
  nvm_ran (Ok v) h = nvm_performed d h
  nvm_ran (Err e) h = nvm_stopped (λ m a p. Refuses nvm_rules m a e p) (λ m a p. PairRefuses m a e p) (λ m p a s. (s, refl)) h

  pub nvm_cut : CutOn nvm_rules n acts k → CutPair (both n d) (map on_nvm acts) (both k d)
  nvm_cut h = nvm_stopped Darkens PairDarkens (λ m p a s. (s, refl)) h

module _ (acts : List DiskAct) (d k : DiskMeaning) (n : NvmMeaning) where
  disk_stopped : (Stops : DiskMeaning → DiskAct → DiskMeaning → Type 0) (Both : Pair → Act → Pair → Type 0)
      → ((m p : DiskMeaning) (a : DiskAct) → Stops m a p → Both (both n m) (on_disk a) (both n p))
      → Stopped (Performs disk_rules) Stops d acts k → Stopped PairPerforms Both (both n d) (map on_disk acts) (both n k)
  disk_stopped Stops Both lift h = record {
    front = map on_disk h.front;
    act = on_disk h.act;
    back = map on_disk h.back;
    parts = ap (map on_disk) h.parts ∙ map_parts on_disk h.front (h.act ∷ h.back);
    middle = both n h.middle;
    ran = disk_performed n h.ran;
    stops = lift h.middle k h.act h.stops;
  }

  pub disk_ran : {V : Type 0} (r : Result V Refusal) → RanOn disk_rules d acts r k → RanPair (both n d) (map on_disk acts) r (both n k)
  disk_ran (Ok v) h = disk_performed n h
  disk_ran (Err e) h = disk_stopped (λ m a p. Refuses disk_rules m a e p) (λ m a p. PairRefuses m a e p) (λ m p a s. (s, refl)) h

  pub disk_cut : CutOn disk_rules d acts k → CutPair (both n d) (map on_disk acts) (both n k)
  disk_cut h = disk_stopped Darkens PairDarkens (λ m p a s. (s, refl)) h
