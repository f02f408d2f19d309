-- The worked examples hold. Assumes nothing.
use Rattle.std.proofs.Common.{◌≡◌, ℕ, ◌≤◌, true, false, ◌⊎◌, List, [], refl, inl, inr, arith}
use Rattle.std.proofs.lemmas.Bool.{cases_Bool}
use Rattle.ringlaws.specs.Layout.{used_between}
use Rattle.ringlaws.specs.TxnInfo.{count_in, count_limit, good_info}
use Rattle.ringlaws.specs.Sound.{info_before}
use Rattle.ringlaws.specs.Examples.{RingExamples}
use Rattle.ringlaws.proofs.Infos.{good}
use Rattle.ringlaws.proofs.Bad.{step_bad}

bad_count : (B left : ℕ) (u : List ℕ) → (1 ≤ count_in u → count_in u ≤ count_limit → ⊥) → good_info B left u ≡ false
bad_count B left u h = go (cases_Bool (good_info B left u))
  where
    go : (good_info B left u ≡ true) ⊎ (good_info B left u ≡ false) → good_info B left u ≡ false
    go (inl g) = let w = good B left u g in absurd (h w.least w.most)
    go (inr e) = e

pub ring_examples : RingExamples
ring_examples = record {
  record_fifteen = (refl, refl);
  record_sixteen = (refl, refl);
  used_over_the_end = refl;
  three_before = refl;
  five_and_three = refl;
  count_zero = λ N B c head tail lt e. step_bad N B c tail (used_between N head tail) [] lt (bad_count B (used_between N head tail) (info_before N c tail) (λ a b. omega arith));
  count_thirty_one = λ N B c head tail lt e. step_bad N B c tail (used_between N head tail) [] lt (bad_count B (used_between N head tail) (info_before N c tail) (λ a b. omega arith));
}
