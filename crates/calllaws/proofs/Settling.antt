-- Flushes of all lines, a fence and a sync, on devices with any contents, on settled ones, and before other acts. Assumes
-- nothing.
use Rattle.std.proofs.Common.{◌≡◌, ℕ, ◌+◌, false, cond, List, [], ◌∷◌, ◌++◌, Some, None, sym, refl, ap, ◌∙◌, subst, inl}
use Rattle.refusal.specs.declared.reason.Refusal.TheVariants.{Beyond, Unsettled, Dark}
use Rattle.device.specs.Pieces.{settled, is_unsettled}
use Rattle.device.specs.Devices.{Meaning, Rules, refusal_of}
use Rattle.device.specs.Words.{words_of, nvm_rules}
use Rattle.device.specs.Sectors.{sectors_of, disk_rules}
use Rattle.crash.specs.Runs.{done, then}
use Rattle.crash.specs.Acts.{made, Accepts}
use Rattle.crash.specs.Pair.{Pair, both, Act, on_nvm, on_disk, PerformedPair, CutPair, PairRestarted, PairRests, PairAccepts, nvm_part, disk_part, settling_both}
use Rattle.crash.proofs.Steps.{back_settled}
use Rattle.crash.proofs.Pairs.{nvm_append, disk_append}
use Rattle.crash.proofs.PairPhases.{any_devices_settle}
use Rattle.calllaws.specs.FormatLaw.{AnyContents, SettlingSettlesBoth}
use Rattle.calllaws.proofs.Stages.{Stage, accepts_then}

pub settling_settles_both : SettlingSettlesBoth
settling_settles_both N B m any =
    let h = any_devices_settle m any.words_end in (
      subst (λ (u : ℕ). PairAccepts m (settling_both u)) any.units h.accepted,
      (λ n r. h.performed n (subst (λ (u : ℕ). PerformedPair m (settling_both u) n) (sym any.units) r)),
    )

-- cut on settled devices, it leaves them settled as they were
pub settling_restarted : (u : ℕ) {c : ℕ → ℕ} {e : ℕ → List ℕ} {m n p : Pair} → m.nvm.size ≡ u → PairRests c e m → CutPair m (settling_both u) n → PairRestarted n p
    → PairRests c e p
settling_restarted u {c} {e} {m} {n} {p} units rests cut again =
    let h = any_devices_settle m (λ w le. ap is_unsettled (rests.nvm w)) in
    let k = subst (λ (x : ℕ). CutPair m (settling_both x) n) (sym units) cut in
    record {
      nvm = λ w. back_settled (c w) (rests.nvm w) (h.words_back n p k again w);
      disk = λ s. back_settled (e s) (rests.disk s) (h.sectors_back n p k again s);
    }

-- Acts that both devices accept can be performed: with power, where nothing settles of its own accord, each piece is what the
-- acts make of it.
abbrev made_by : List Act → Pair → Pair
made_by acts m =
    both (record { size = m.nvm.size; dark = m.nvm.dark; piece = λ w. made nvm_rules (nvm_part acts) w (m.nvm.piece w) })
    (record { size = m.disk.size; dark = m.disk.dark; piece = λ s. made disk_rules (disk_part acts) s (m.disk.piece s) })

allowed : {Act Mark Value : Type 0} (rules : Rules Act Mark Value) (m : Meaning Mark Value) (a : Act)
    → m.dark ≡ false → rules.beyond m.size a ≡ false → rules.blocked m.piece a ≡ false → refusal_of rules m a ≡ None
allowed rules m a p q r =
    ap (λ t. cond t (Some Dark) (cond (rules.beyond m.size a) (Some Beyond) (cond (rules.blocked m.piece a) (Some Unsettled) None))) p
    ∙ ap (λ t. cond t (Some Beyond) (cond (rules.blocked m.piece a) (Some Unsettled) None)) q
    ∙ ap (λ t. cond t (Some Unsettled) None) r

accepted_performs : (acts : List Act) (m : Pair) → m.nvm.dark ≡ false → m.disk.dark ≡ false → PairAccepts m acts → PerformedPair m acts (made_by acts m)
accepted_performs [] m p q acc = done
accepted_performs (on_nvm a ∷ more) m p q acc =
    let (in-it, free, later) = acc.nvm in
    then {p = made_by (on_nvm a ∷ []) m} (record { allowed = allowed nvm_rules m.nvm a p in-it free; size = refl; power = refl; pieces = λ w. inl refl }, refl)
    (accepted_performs more (made_by (on_nvm a ∷ []) m) p q (record { nvm = later; disk = acc.disk }))
accepted_performs (on_disk a ∷ more) m p q acc =
    let (in-it, free, later) = acc.disk in
    then {p = made_by (on_disk a ∷ []) m} (record { allowed = allowed disk_rules m.disk a q in-it free; size = refl; power = refl; pieces = λ s. inl refl }, refl)
    (accepted_performs more (made_by (on_disk a ∷ []) m) p q (record { nvm = acc.nvm; disk = later }))

-- acts that are accepted at the present contents are accepted after it
pub settling_then : (N B : ℕ) {m : Pair} {d : ℕ → ℕ} {f : ℕ → List ℕ} {acts : List Act} → AnyContents N B m → Stage (N + 1) B (words_of m.nvm) (sectors_of m.disk) acts d f
    → PairAccepts m (settling_both (N + 1) ++ acts)
settling_then N B {m} {acts = acts} any stage = record {
  nvm = subst (Accepts nvm_rules m.nvm.size m.nvm.piece) (sym (nvm_append (settling_both (N + 1)) acts))
      (accepts_then nvm_rules m.nvm.size m.nvm.piece (words_of m.nvm) (nvm_part (settling_both (N + 1))) (nvm_part acts) calm.nvm first.0.nvm
      (subst (λ (u : ℕ). Accepts nvm_rules u (λ w. settled (words_of m.nvm w)) (nvm_part acts)) (sym any.units) stage.stored));
  disk = subst (Accepts disk_rules m.disk.size m.disk.piece) (sym (disk_append (settling_both (N + 1)) acts))
      (accepts_then disk_rules m.disk.size m.disk.piece (sectors_of m.disk) (disk_part (settling_both (N + 1))) (disk_part acts) calm.disk first.0.disk
      (subst (λ (b : ℕ). Accepts disk_rules b (λ s. settled (sectors_of m.disk s)) (disk_part acts)) (sym any.blocks) stage.written));
}
  where
    -- the same devices with power
    lit : Pair
    lit = both (record { size = m.nvm.size; dark = false; piece = m.nvm.piece }) (record { size = m.disk.size; dark = false; piece = m.disk.piece })

    lit_any : AnyContents N B lit
    lit_any = record {
      least = any.least;
      most = any.most;
      some = any.some;
      few = any.few;
      units = any.units;
      blocks = any.blocks;
      words_end = any.words_end;
      sectors_end = any.sectors_end;
    }

    first : PairAccepts lit (settling_both (N + 1)) × ((n : Pair) → PerformedPair lit (settling_both (N + 1)) n → PairRests (words_of lit.nvm) (sectors_of lit.disk) n)
    first = settling_settles_both N B lit lit_any

    calm : PairRests (words_of lit.nvm) (sectors_of lit.disk) (made_by (settling_both (N + 1)) lit)
    calm = first.1 (made_by (settling_both (N + 1)) lit) (accepted_performs (settling_both (N + 1)) lit refl refl first.0)
