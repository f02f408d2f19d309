-- The acts of a commit: the places of a transaction, and then its tail. Assumes nothing.
use Rattle.std.proofs.Common.{◌≡◌, ℕ, ◌<◌, List, [], ◌∷◌, ◌++◌, map, length, IsErrAnd, Ok, Result, sym, subst, arith}
use Rattle.refusal.specs.declared.reason.Refusal.{Refusal}
use Rattle.device.specs.Words.{NvmMeaning, NvmAct, nvm_rules}
use Rattle.crash.specs.Runs.{done}
use Rattle.crash.specs.Acts.{PerformedOn, HaltedOn, RanOn}
use Rattle.crash.specs.Rows.{sealing}
use Rattle.crash.specs.Pair.{both, on_nvm, RanPair}
use Rattle.crash.proofs.Runs.{stopped_first}
use Rattle.crash.proofs.Pairs.{nvm_performed, nvm_ran}
use Rattle.ringlaws.specs.Layout.{tail_word, after}
use Rattle.ringlaws.specs.TxnInfo.{Transaction, taken}
use Rattle.acting.specs.Commits.{laying, RanCommit}
use Rattle.acting.proofs.Running.{pair_broken, pair_at_last, nvm_halted}

-- the same acts under other names
pub performed_as : {m n : NvmMeaning} {fs gs : List NvmAct} → fs ≡ gs → PerformedOn nvm_rules m fs n → PerformedOn nvm_rules m gs n
performed_as {m} {n} e r = subst (λ (t : List NvmAct). PerformedOn nvm_rules m t n) e r

pub halted_as : {m n : NvmMeaning} {fs gs : List NvmAct} {x : Refusal} → fs ≡ gs → HaltedOn nvm_rules m fs x n → HaltedOn nvm_rules m gs x n
halted_as {m} {n} {x = x} e h = subst (λ (t : List NvmAct). HaltedOn nvm_rules m t x n) e h

-- what is run for the tail x
abbrev ending : ℕ → ℕ → Transaction → List NvmAct
ending N x t = sealing tail_word (after N x (taken (length t)))

-- nothing to commit, nothing to run
pub commit_none : (N tail : ℕ) (t : Transaction) (m : NvmMeaning) → length t ≡ 0 → RanCommit {V = Unit {0}} N tail t m (Ok tt) m
commit_none N tail [] m e d c same = done
commit_none N tail (s ∷ t) m e d c same = absurd (omega arith)

module _ {V : Type 0} (N tail : ℕ) (r : Result V Refusal) where
  -- it stops before the tail is sealed
  pub commit_broken : (t : Transaction) {m n : NvmMeaning} {e : Refusal} → 0 < length t → IsErrAnd r (λ y. y ≡ e) → HaltedOn nvm_rules m (laying N tail t) e n → RanCommit N tail t m r n
  commit_broken [] pos b h d c same = absurd (omega arith)
  commit_broken (s ∷ t) {m} {n} pos b h d c same =
      subst (λ (x : ℕ). RanPair (both m d) (map on_nvm (laying N x (s ∷ t)) ++ map on_nvm (ending N x (s ∷ t))) r (both n d)) (sym same)
      (pair_broken r b (stopped_first _ (nvm_halted d h)))

  -- it ends with the tail
  pub commit_ended : (t : Transaction) {m n : NvmMeaning} (p : NvmMeaning) (end : ℕ) → 0 < length t → end ≡ after N tail (taken (length t)) → PerformedOn nvm_rules m (laying N tail t) n → RanOn nvm_rules n (sealing tail_word end) r p
      → RanCommit N tail t m r p
  commit_ended [] p end pos is q w d c same = absurd (omega arith)
  commit_ended (s ∷ t) {m} {n} p end pos is q w d c same =
      let sealed : RanOn nvm_rules n (ending N tail (s ∷ t)) r p = subst (λ (x : ℕ). RanOn nvm_rules n (sealing tail_word x) r p) is w in
      subst (λ (x : ℕ). RanPair (both m d) (map on_nvm (laying N x (s ∷ t)) ++ map on_nvm (ending N x (s ∷ t))) r (both p d)) (sym same)
      (pair_at_last _ _ r (nvm_performed d q) (nvm_ran (ending N tail (s ∷ t)) n p d r sealed))
