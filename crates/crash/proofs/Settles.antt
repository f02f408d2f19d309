-- Flushes of all lines and a fence settle a memory, and a sync a disk, whatever they held. Assumes nothing.
use Rattle.std.proofs.Common.{◌≡◌, ℕ, ◌+◌, ◌*◌, ◌/◌, ◌≤◌, Bool, true, false, cond, [], ◌∷◌, refl, ap, ◌∙◌, arith}
use Rattle.std.proofs.lemmas.Bool.Decides.{nat_tests}
use Rattle.device.specs.Pieces.{settled, unsettled, present_value, is_unsettled}
use Rattle.device.specs.Words.{Word, Fence, flushed_word, fenced_word, nvm_rules}
use Rattle.crash.specs.Runs.{done, then}
use Rattle.crash.specs.Acts.{made, Accepts}
use Rattle.crash.specs.Keeping.{nvm_keeps, Quiet}
use Rattle.crash.specs.Rows.{flushing, settling, inside}
use Rattle.crash.specs.Crash.{FlushesSettleAll, SyncSettlesAll}
use Rattle.crash.proofs.Runs.{each_append, each_turned}
use Rattle.crash.proofs.Tame.{nvm_is_tame}
use Rattle.crash.proofs.Steps.{settled_is, sync_settles}
use Rattle.crash.proofs.Follow.{made_append, run_settles, accepts_append}
use Rattle.crash.proofs.Rows.{flushing_line, flushing_row}
use Rattle.crash.proofs.Phases.{flushes_made, flushes_quiet, flushes_accepted}

flushed_fenced : (c : Word) → fenced_word (flushed_word c) ≡ settled (present_value c)
flushed_fenced (settled v) = refl
flushed_fenced (unsettled k s p) = refl

fenced_settled : (c : Word) → is_unsettled c ≡ false → fenced_word c ≡ settled (present_value c)
fenced_settled c e = ap fenced_word (settled_is c e)

-- within the size a word is flushed, beyond it there is nothing to settle
settling_made : (u w : ℕ) (c : Word) → (32 * u ≤ w → is_unsettled c ≡ false) → made nvm_rules (settling u) w c ≡ settled (present_value c)
settling_made u w c ends =
    made_append nvm_rules (flushing 0 (4 * u)) (Fence ∷ []) w c
    ∙ ap fenced_word (flushes_made u (flushing 0 (4 * u)) (flushing_row 0 u (4 * u) (omega arith)) w c ∙ ap (λ t. cond t (flushed_word c) c) (flushing_line 0 (4 * u) (w / 8)))
    ∙ by_test (inside 0 (0 + 4 * u) (w / 8)) refl
  where
    by_test : (t : Bool) → inside 0 (0 + 4 * u) (w / 8) ≡ t → fenced_word (cond t (flushed_word c) c) ≡ settled (present_value c)
    by_test true e = flushed_fenced c
    by_test false e = fenced_settled c (ends (grind (arith, nat_tests)))

pub flushes_settle_all : FlushesSettleAll
flushes_settle_all m n ends r w =
    let e = settling_made m.size w (m.piece w) (ends w) in
    run_settles nvm_rules nvm_keeps nvm_is_tame r w (ap is_unsettled e) ∙ ap (λ x. settled (present_value x)) e

pub sync_settles_all : SyncSettlesAll
sync_settles_all m n (then s done) = sync_settles m n s

-- neither moves a present value, and neither is refused
pub settling_quiet : (u : ℕ) → Quiet nvm_keeps (settling u)
settling_quiet u = each_append _ (flushing 0 (4 * u)) (Fence ∷ []) (each_turned _ _ (flushes_quiet u) (flushing 0 (4 * u)) (flushing_row 0 u (4 * u) (omega arith))) ((λ w p. refl), tt)

pub settling_accepted : (u : ℕ) (piece : ℕ → Word) → Accepts nvm_rules u piece (settling u)
settling_accepted u piece =
    accepts_append nvm_rules (flushing 0 (4 * u)) (Fence ∷ []) u piece (flushes_accepted u piece (flushing 0 (4 * u)) (flushing_row 0 u (4 * u) (omega arith))) (refl, refl, tt)
