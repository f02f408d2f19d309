-- Worked examples of the layout, as facts.
use Rattle.std.specs.Prelude.{◌≡◌, ℕ, ◌<◌, [], ◌∷◌, ◌++◌, replicate}
use Rattle.ringlaws.specs.Layout.{Contents, home_block, home_word, used_between, before}
use Rattle.ringlaws.specs.TxnInfo.{info_unit, count_in, magic}
use Rattle.ringlaws.specs.Sound.{bad_at, info_before, step_back}

pub record RingExamples : Type 0 where
  -- record 15 lies in block 0 at word 480, record 16 in block 1 at word 0
  pub record_fifteen : (home_block 15 ≡ 0) × (home_word 15 ≡ 480)
  pub record_sixteen : (home_block 16 ≡ 1) × (home_word 16 ≡ 0)
  -- N = 32, head 30, tail 1: three places are used, and three places before 1 is 30
  pub used_over_the_end : used_between 32 30 1 ≡ 3
  pub three_before : before 32 1 3 ≡ 30
  -- the numbers 5 and 3 give the words 5, 3, zeros, 2, Magic
  pub five_and_three : info_unit (5 ∷ 3 ∷ []) ≡ 5 ∷ 3 ∷ (replicate 28 0 ++ 2 ∷ magic ∷ [])
  -- a Count of 0 or of 31 right before the tail makes a ring unsound there, whatever else it holds
  pub count_zero : (N B : ℕ) (c : Contents) (head tail : ℕ) → 0 < used_between N head tail → count_in (info_before N c tail) ≡ 0 → step_back N B c head tail ≡ bad_at (before N tail 1)
  pub count_thirty_one : (N B : ℕ) (c : Contents) (head tail : ℕ) → 0 < used_between N head tail → count_in (info_before N c tail) ≡ 31 → step_back N B c head tail ≡ bad_at (before N tail 1)
