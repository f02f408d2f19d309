-- A mount settles everything and checkpoints: performed whole or cut, it keeps the table. Assumes nothing.
use Rattle.std.proofs.Common.{◌≡◌, ℕ, ◌+◌, List, [], ◌++◌, sym, ap, subst, inl, inr}
use Rattle.device.specs.Pieces.{present_value, is_unsettled}
use Rattle.device.specs.Words.{words_of}
use Rattle.device.specs.Sectors.{sectors_of}
use Rattle.crash.specs.Pair.{Pair, PerformedPair, CutPair, PairRestarted, PairRests, PairAccepts, settling_both}
use Rattle.crash.proofs.Runs.{performed_split, stopped_split}
use Rattle.ringlaws.specs.Layout.{Contents}
use Rattle.ringlaws.specs.TxnInfo.{Transaction}
use Rattle.calls.specs.Acts.{checkpoint_acts}
use Rattle.calllaws.specs.Holds.{Ready, Keeps}
use Rattle.calllaws.specs.CheckpointLaw.{KeepsTheTable, MountsKeepTheTable}
use Rattle.calllaws.specs.FormatLaw.{AnyContents}
use Rattle.calllaws.proofs.Stages.{Stage, performed_sizes, restarted_sizes, ready_again}
use Rattle.calllaws.proofs.Settling.{settling_settles_both, settling_restarted, settling_then}
use Rattle.calllaws.proofs.Checkpoints.{same_words, checkpointed, checkpoint_stage, checkpoints_keep_the_table}

-- settled devices have some contents
ready_any : {N B : ℕ} {c : Contents} {e : ℕ → List ℕ} {m : Pair} → Ready N B c e m → AnyContents N B m
ready_any ready = record {
  least = ready.least;
  most = ready.most;
  some = ready.some;
  few = ready.few;
  units = ready.units;
  blocks = ready.blocks;
  words_end = λ w le. ap is_unsettled (ready.rests.nvm w);
  sectors_end = λ s le. ap is_unsettled (ready.rests.disk s);
}

-- namely those at which they are settled
ready_now : {N B : ℕ} {c : Contents} {e : ℕ → List ℕ} {m : Pair} → Ready N B c e m → (c ≡ words_of m.nvm) × (e ≡ sectors_of m.disk)
ready_now {c = c} {e} {m} ready = (
  same_words (words_of m.nvm) c (λ w. sym (ap present_value (ready.rests.nvm w))),
  same_words (sectors_of m.disk) e (λ s. sym (ap present_value (ready.rests.disk s))),
)

pub mounts_keep_the_table : MountsKeepTheTable
mounts_keep_the_table N B c e ts units m ready holds = record { accepts = accepts; whole = whole; cut = cut }
  where
    later : (k : Pair) → Ready N B c e k → KeepsTheTable N B units (checkpoint_acts B c ts e) k
    later k r = checkpoints_keep_the_table N B c e ts units k r holds

    -- settled again, at the same contents
    settled_again : (k : Pair) → PerformedPair m (settling_both (N + 1)) k → Ready N B c e k
    settled_again k r =
        let (p, q) = ready_now ready in
        ready_again ready (performed_sizes r)
        (subst (λ (x : Contents). PairRests x e k) (sym p) (subst (λ (y : ℕ → List ℕ). PairRests (words_of m.nvm) y k) (sym q) ((settling_settles_both N B m (ready_any ready)).1 k r)))

    accepts : PairAccepts m (settling_both (N + 1) ++ checkpoint_acts B c ts e)
    accepts =
        let (p, q) = ready_now ready in
        let (d, f) = checkpointed B c ts e in
        settling_then N B (ready_any ready)
        (subst (λ (x : Contents). Stage (N + 1) B x (sectors_of m.disk) (checkpoint_acts B c ts e) d f) p
        (subst (λ (y : ℕ → List ℕ). Stage (N + 1) B c y (checkpoint_acts B c ts e) d f) q (checkpoint_stage N B c ts e)))

    whole : (n : Pair) → PerformedPair m (settling_both (N + 1) ++ checkpoint_acts B c ts e) n → Keeps N B n [] units
    whole n r =
        let (k, first, second) = performed_split (settling_both (N + 1)) (checkpoint_acts B c ts e) r in
        (later k (settled_again k first)).whole n second

    cut : (n p : Pair) → CutPair m (settling_both (N + 1) ++ checkpoint_acts B c ts e) n → PairRestarted n p → (us : List Transaction) × Keeps N B p us units
    cut n p k again = elim (stopped_split (settling_both (N + 1)) (checkpoint_acts B c ts e) k) [
      | inl first ↦ (
        ts,
        record {
          words = c;
          sectors = e;
          ready = ready_again ready (restarted_sizes first again) (settling_restarted (N + 1) ready.units ready.rests first again);
          holds = holds;
        },
      )
      | inr (mid, ran, second) ↦ (later mid (settled_again mid ran)).cut n p second again
    ]
