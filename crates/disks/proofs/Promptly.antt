-- A write as the patient disk does it, and then everything settled, is a write as the prompt disk does it. Assumes nothing.
use Rattle.std.proofs.Common.{◌≡◌, ℕ, Bool, true, false, eqb, Some, None, Ok, Option, refl, ap, ◌∙◌, arith}
use Rattle.refusal.specs.declared.reason.Refusal.{Refusal}
use Rattle.device.specs.Devices.{refusal_of}
use Rattle.device.specs.Sectors.{DiskAct, disk_rules}
use Rattle.simulated.specs.Natures.{outcome_of, answer_of, state_of}
use Rattle.disks.specs.State.{DiskState, ActsBy, patient, prompt, all_settled}

module _ (a : DiskAct) (s t : DiskState) where
  pub settled_after : (u : DiskState) (v : Unit {0}) → ActsBy (patient a) s a (Ok v) t → u ≡ all_settled t → ActsBy (prompt a) s a (Ok v) u
  settled_after u v (answer, state) done = (answer, done ∙ ap all_settled state ∙ by_tests (refusal_of disk_rules s.meaning a) (eqb s.left 0) answer)
    where
      by_tests : (o : Option Refusal) (z : Bool) → Ok v ≡ answer_of (outcome_of o z) → all_settled (state_of (patient a) s (outcome_of o z)) ≡ state_of (prompt a) s (outcome_of o z)
      by_tests (Some e) z i = let n : ◌≡◌ {A = ℕ} 0 1 = cc in absurd (omega arith)
      by_tests None true i = let n : ◌≡◌ {A = ℕ} 0 1 = cc in absurd (omega arith)
      by_tests None false i = refl
