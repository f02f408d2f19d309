-- Phases of one device of a pair. Assumes nothing.
use Rattle.std.proofs.Common.{◌≡◌, ℕ, List, [], ◌∷◌, ◌++◌, map, refl, ap, ◌∙◌, subst, inl, inr}
use Rattle.device.specs.Pieces.{settled, settled_value, present_value, ComesBack}
use Rattle.device.specs.Devices.{Meaning, Restarted}
use Rattle.device.specs.Words.{NvmMeaning, NvmAct, words_of, nvm_rules}
use Rattle.device.specs.Sectors.{DiskMeaning, DiskAct, Sync, sectors_of, disk_rules}
use Rattle.crash.specs.Acts.{PerformedOn, Begun, Rests, Mixed, Leads}
use Rattle.crash.specs.Keeping.{nvm_keeps, disk_keeps, Brings}
use Rattle.crash.specs.Rows.{sealing, settling}
use Rattle.crash.specs.Pair.{Pair, on_nvm, on_disk, PerformedPair, CutPair, PairRestarted, PairRests, nvm_part, disk_part, settling_both}
use Rattle.crash.specs.Phases.{UntouchedOutlastsBoth, Returns, NvmPhaseSettles, NvmPhaseBlends, DiskPhaseSettles, DiskPhaseBlends, SealingBothIsAtomic, AnyDevicesSettle}
use Rattle.crash.proofs.Tame.{nvm_is_tame, disk_is_tame}
use Rattle.crash.proofs.Follow.{untouched_outlasts, phase_settles}
use Rattle.crash.proofs.Blends.{cut_phase_blends, quiet_acts_show_nothing}
use Rattle.crash.proofs.Atomic.{sealing_is_atomic}
use Rattle.crash.proofs.Settles.{flushes_settle_all, sync_settles_all, settling_quiet, settling_accepted}
use Rattle.crash.proofs.Pairs.{nvm_append, disk_append, nvm_own, disk_own, nvm_none, disk_none, runs_part, cuts_part, pair_accepts}

pub rests_mixed : {Mark Value : Type 0} (c d : ℕ → Value) (m : Meaning Mark Value) → Rests c m → Mixed c d m
rests_mixed c d m calm = ((λ i. inl (ap settled_value (calm i))), (λ i. inl (ap present_value (calm i))))

-- what the phase of one device does to each of the two
module _ (acts : List NvmAct) (m n : Pair) where
  nvm_alone : PerformedPair m (map on_nvm acts) n → PerformedOn nvm_rules m.nvm acts n.nvm × PerformedOn disk_rules m.disk [] n.disk
  nvm_alone r =
      let (x, y) = runs_part (map on_nvm acts) m n r in (
        subst (λ (t : List NvmAct). PerformedOn nvm_rules m.nvm t n.nvm) (nvm_own acts) x,
        subst (λ (t : List DiskAct). PerformedOn disk_rules m.disk t n.disk) (disk_none acts) y,
      )

  nvm_alone_cut : CutPair m (map on_nvm acts) n → Begun nvm_rules m.nvm acts n.nvm × Begun disk_rules m.disk [] n.disk
  nvm_alone_cut c =
      let (d, x, y) = cuts_part (map on_nvm acts) m n c in (
        subst (λ (t : List NvmAct). Begun nvm_rules m.nvm t n.nvm) (nvm_own acts) x,
        subst (λ (t : List DiskAct). Begun disk_rules m.disk t n.disk) (disk_none acts) y,
      )

module _ (acts : List DiskAct) (m n : Pair) where
  disk_alone : PerformedPair m (map on_disk acts) n → PerformedOn nvm_rules m.nvm [] n.nvm × PerformedOn disk_rules m.disk acts n.disk
  disk_alone r =
      let (x, y) = runs_part (map on_disk acts) m n r in (
        subst (λ (t : List NvmAct). PerformedOn nvm_rules m.nvm t n.nvm) (nvm_none acts) x,
        subst (λ (t : List DiskAct). PerformedOn disk_rules m.disk t n.disk) (disk_own acts) y,
      )

  disk_alone_cut : CutPair m (map on_disk acts) n → Begun nvm_rules m.nvm [] n.nvm × Begun disk_rules m.disk acts n.disk
  disk_alone_cut c =
      let (d, x, y) = cuts_part (map on_disk acts) m n c in (
        subst (λ (t : List NvmAct). Begun nvm_rules m.nvm t n.nvm) (nvm_none acts) x,
        subst (λ (t : List DiskAct). Begun disk_rules m.disk t n.disk) (disk_own acts) y,
      )

-- what each device makes of its part
nvm_settles : (c d : ℕ → ℕ) (acts : List NvmAct) (m n : NvmMeaning) → Rests c m → Leads nvm_rules c acts d → PerformedOn nvm_rules m acts n → Rests d n
nvm_settles = phase_settles nvm_rules nvm_keeps nvm_is_tame

disk_settles : (c d : ℕ → List ℕ) (acts : List DiskAct) (m n : DiskMeaning) → Rests c m → Leads disk_rules c acts d → PerformedOn disk_rules m acts n → Rests d n
disk_settles = phase_settles disk_rules disk_keeps disk_is_tame

returned : (c d : ℕ → ℕ) (e f : ℕ → List ℕ) (xs : List NvmAct) (ys : List DiskAct) (m n p : Pair) → PairRests c e m → Brings nvm_keeps d xs → Brings disk_keeps f ys
    → Begun nvm_rules m.nvm xs n.nvm → Begun disk_rules m.disk ys n.disk → PairRestarted n p → Returns c d e f p
returned c d e f xs ys m n p calm bs cs x y again =
    let (nvm-rests, nvm-blend) = cut_phase_blends nvm_rules nvm_keeps nvm_is_tame c d xs m.nvm n.nvm p.nvm (rests_mixed c d m.nvm calm.nvm) bs x again.nvm in
    let (disk-rests, disk-blend) = cut_phase_blends disk_rules disk_keeps disk_is_tame e f ys m.disk n.disk p.disk (rests_mixed e f m.disk calm.disk) cs y again.disk in
    record { rests = record { nvm = nvm-rests; disk = disk-rests }; words = nvm-blend; sectors = disk-blend }

pub untouched_outlasts_both : UntouchedOutlastsBoth
untouched_outlasts_both S T acts m n p calm quiet sp sq k again =
    let (d, x, y) = cuts_part acts m n k in (
      untouched_outlasts nvm_rules S (nvm_part acts) m.nvm n.nvm p.nvm calm sp x again.nvm,
      untouched_outlasts disk_rules T (disk_part acts) m.disk n.disk p.disk quiet sq y again.disk,
    )

pub nvm_phase_settles : NvmPhaseSettles
nvm_phase_settles c d e acts m n calm leads r =
    let (x, y) = nvm_alone acts m n r in
    record { nvm = nvm_settles c d acts m.nvm n.nvm calm.nvm leads x; disk = disk_settles e e [] m.disk n.disk calm.disk (λ s. refl) y }

pub nvm_phase_blends : NvmPhaseBlends
nvm_phase_blends c d e acts m n p calm brings k again =
    let (x, y) = nvm_alone_cut acts m n k in returned c d e e acts [] m n p calm brings tt x y again

pub disk_phase_settles : DiskPhaseSettles
disk_phase_settles c e f acts m n calm leads r =
    let (x, y) = disk_alone acts m n r in
    record { nvm = nvm_settles c c [] m.nvm n.nvm calm.nvm (λ w. refl) x; disk = disk_settles e f acts m.disk n.disk calm.disk leads y }

pub disk_phase_blends : DiskPhaseBlends
disk_phase_blends c e f acts m n p calm brings k again =
    let (x, y) = disk_alone_cut acts m n k in returned c c e f [] acts m n p calm tt brings x y again

pub sealing_both_is_atomic : SealingBothIsAtomic
sealing_both_is_atomic c d e acts t v S m n p calm leads sp st k again =
    let (x, y) = nvm_alone_cut (acts ++ sealing t v) m n k in
    let (rests, blend) = cut_phase_blends disk_rules disk_keeps disk_is_tame e e [] m.disk n.disk p.disk (rests_mixed e e m.disk calm.disk) tt y again.disk in
    let disk : Rests e p.disk = λ s. rests s ∙ ap settled (elim (blend s) [ inl h ↦ h | inr h ↦ h ]) in
    (disk, sealing_is_atomic c d acts t v S m.nvm n.nvm p.nvm calm.nvm leads sp st x again.nvm)

-- flushes of all lines, a fence and a sync, part by part
module _ (u : ℕ) where
  settling_words : nvm_part (settling_both u) ≡ settling u ++ []
  settling_words = nvm_append (map on_nvm (settling u)) (on_disk Sync ∷ []) ∙ ap (λ t. t ++ []) (nvm_own (settling u))

  settling_sectors : disk_part (settling_both u) ≡ Sync ∷ []
  settling_sectors = disk_append (map on_nvm (settling u)) (on_disk Sync ∷ []) ∙ ap (λ t. t ++ Sync ∷ []) (disk_none (settling u))

nothing_after : {A : Type 0} (xs : List A) → xs ++ [] ≡ xs
nothing_after [] = refl
nothing_after (x ∷ xs) = ap (λ t. x ∷ t) (nothing_after xs)

pub any_devices_settle : AnyDevicesSettle
any_devices_settle m ends = record {
  accepted = pair_accepts m (settling_both m.nvm.size) (settling m.nvm.size) (Sync ∷ []) nvm_part_lem disk_part_lem (settling_accepted m.nvm.size m.nvm.piece) (refl, refl, tt);
  performed = λ n r.
      let (x, y) = runs_part (settling_both m.nvm.size) m n r in
      record {
        nvm = flushes_settle_all m.nvm n.nvm ends (subst (λ (t : List NvmAct). PerformedOn nvm_rules m.nvm t n.nvm) nvm_part_lem x);
        disk = sync_settles_all m.disk n.disk (subst (λ (t : List DiskAct). PerformedOn disk_rules m.disk t n.disk) disk_part_lem y);
      };
  words = λ n k. (quiet_words n k).0;
  sectors = λ n k. (quiet_sectors n k).0;
  words_back = λ n p k again. (quiet_words n k).1 p.nvm again.nvm;
  sectors_back = λ n p k again. (quiet_sectors n k).1 p.disk again.disk;
}
  where
    nvm_part_lem : nvm_part (settling_both m.nvm.size) ≡ settling m.nvm.size
    nvm_part_lem = settling_words m.nvm.size ∙ nothing_after (settling m.nvm.size)

    disk_part_lem : disk_part (settling_both m.nvm.size) ≡ Sync ∷ []
    disk_part_lem = settling_sectors m.nvm.size

    quiet_words : (n : Pair) → CutPair m (settling_both m.nvm.size) n
        → ((w : ℕ) → words_of n.nvm w ≡ words_of m.nvm w) × ((p : NvmMeaning) → Restarted n.nvm p → (w : ℕ) → ComesBack (m.nvm.piece w) (p.piece w))
    quiet_words n k =
        let (d, x, y) = cuts_part (settling_both m.nvm.size) m n k in
        quiet_acts_show_nothing nvm_rules nvm_keeps nvm_is_tame (settling m.nvm.size) m.nvm n.nvm (settling_quiet m.nvm.size)
        (subst (λ (t : List NvmAct). Begun nvm_rules m.nvm t n.nvm) nvm_part_lem x)

    quiet_sectors : (n : Pair) → CutPair m (settling_both m.nvm.size) n
        → ((s : ℕ) → sectors_of n.disk s ≡ sectors_of m.disk s) × ((p : DiskMeaning) → Restarted n.disk p → (s : ℕ) → ComesBack (m.disk.piece s) (p.piece s))
    quiet_sectors n k =
        let (d, x, y) = cuts_part (settling_both m.nvm.size) m n k in
        quiet_acts_show_nothing disk_rules disk_keeps disk_is_tame (Sync ∷ []) m.disk n.disk ((λ s p. refl), tt)
        (subst (λ (t : List DiskAct). Begun disk_rules m.disk t n.disk) disk_part_lem y)
