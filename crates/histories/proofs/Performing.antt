-- Acts that both devices accept can be performed, and so can each beginning of them. Assumes nothing.
use Rattle.std.proofs.Common.{◌≡◌, ℕ, false, cond, List, [], ◌∷◌, ◌++◌, Some, None, refl, ap, ◌∙◌, subst, inl}
use Rattle.std.proofs.lemmas.Bool.{or_parts}
use Rattle.refusal.specs.declared.reason.Refusal.TheVariants.{Beyond, Unsettled, Dark}
use Rattle.device.specs.Pieces.{Piece}
use Rattle.device.specs.Devices.{Meaning, Rules, refusal_of}
use Rattle.device.specs.Words.{nvm_rules}
use Rattle.device.specs.Sectors.{disk_rules}
use Rattle.crash.specs.Runs.{done, then}
use Rattle.crash.specs.Acts.{made, Accepts}
use Rattle.crash.specs.Pair.{Pair, both, Act, on_nvm, on_disk, is_dark, PerformedPair, PairAccepts, nvm_part, disk_part}
use Rattle.crash.proofs.Pairs.{nvm_append, disk_append}

-- what the acts make of devices that settle nothing of their own accord
abbrev pub made_by : List Act → Pair → Pair
made_by acts m =
    both (record { size = m.nvm.size; dark = m.nvm.dark; piece = λ w. made nvm_rules (nvm_part acts) w (m.nvm.piece w) })
    (record { size = m.disk.size; dark = m.disk.dark; piece = λ s. made disk_rules (disk_part acts) s (m.disk.piece s) })

allowed : {Act Mark Value : Type 0} (rules : Rules Act Mark Value) (m : Meaning Mark Value) (a : Act)
    → m.dark ≡ false → rules.beyond m.size a ≡ false → rules.blocked m.piece a ≡ false → refusal_of rules m a ≡ None
allowed rules m a p q r =
    ap (λ t. cond t (Some Dark) (cond (rules.beyond m.size a) (Some Beyond) (cond (rules.blocked m.piece a) (Some Unsettled) None))) p
    ∙ ap (λ t. cond t (Some Beyond) (cond (rules.blocked m.piece a) (Some Unsettled) None)) q
    ∙ ap (λ t. cond t (Some Unsettled) None) r

performs : (acts : List Act) (m : Pair) → m.nvm.dark ≡ false → m.disk.dark ≡ false → PairAccepts m acts → PerformedPair m acts (made_by acts m)
performs [] m p q acc = done
performs (on_nvm a ∷ more) m p q acc =
    let (in-it, free, later) = acc.nvm in
    then {p = made_by (on_nvm a ∷ []) m} (record { allowed = allowed nvm_rules m.nvm a p in-it free; size = refl; power = refl; pieces = λ w. inl refl }, refl)
    (performs more (made_by (on_nvm a ∷ []) m) p q (record { nvm = later; disk = acc.disk }))
performs (on_disk a ∷ more) m p q acc =
    let (in-it, free, later) = acc.disk in
    then {p = made_by (on_disk a ∷ []) m} (record { allowed = allowed disk_rules m.disk a q in-it free; size = refl; power = refl; pieces = λ s. inl refl }, refl)
    (performs more (made_by (on_disk a ∷ []) m) p q (record { nvm = acc.nvm; disk = later }))

-- with power, accepted acts can be performed
pub accepted_performs : (acts : List Act) (m : Pair) → is_dark m ≡ false → PairAccepts m acts → PerformedPair m acts (made_by acts m)
accepted_performs acts m lit acc = let (p, q) = or_parts m.nvm.dark m.disk.dark lit in performs acts m p q acc

-- a beginning of accepted acts is accepted
accepts_front : {Act Mark Value : Type 0} (rules : Rules Act Mark Value) (u : ℕ) (piece : ℕ → Piece Mark Value) (xs ys : List Act)
    → Accepts rules u piece (xs ++ ys) → Accepts rules u piece xs
accepts_front rules u piece [] ys h = tt
accepts_front rules u piece (a ∷ xs) ys (in-it, free, h) = (in-it, free, accepts_front rules u (λ i. rules.makes a i (piece i)) xs ys h)

pub front_accepted : (xs ys : List Act) (m : Pair) → PairAccepts m (xs ++ ys) → PairAccepts m xs
front_accepted xs ys m acc = record {
  nvm = accepts_front nvm_rules m.nvm.size m.nvm.piece (nvm_part xs) (nvm_part ys) (subst (Accepts nvm_rules m.nvm.size m.nvm.piece) (nvm_append xs ys) acc.nvm);
  disk = accepts_front disk_rules m.disk.size m.disk.piece (disk_part xs) (disk_part ys) (subst (Accepts disk_rules m.disk.size m.disk.piece) (disk_append xs ys) acc.disk);
}
