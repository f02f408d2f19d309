-- What a commit asks before it acts. Assumes nothing.
use Rattle.std.specs.Prelude.{◌≡◌, ℕ, ◌+◌, ◌≤◌, true, false, length}
use Rattle.refusal.specs.declared.reason.Refusal.{Refusal}
use Rattle.refusal.specs.declared.reason.Refusal.TheVariants.{RingFull}
use Rattle.ringlaws.specs.Layout.{Contents, is_ring, head_of, tail_of, used}
use Rattle.ringlaws.specs.TxnInfo.{Transaction, count_limit}
use Rattle.calls.specs.Plans.{is_full, added}

-- the contents have a ring of N places with room for the transaction, and so many places are used once it is there
pub record HasRoom (N : ℕ) (c : Contents) (t : Transaction) (places : ℕ) : Type 0 where
  pub ring : is_ring N (head_of c) (tail_of c) ≡ true
  pub few : length t ≤ count_limit
  pub room : is_full N c t ≡ false
  pub then : places ≡ used N c + added t

-- a refusal, which is 33 for want of room wherever the contents have a ring and the transaction at most 30 records
abbrev pub LacksRoom : ℕ → Contents → Transaction → Refusal → Type 0
LacksRoom N c t e = is_ring N (head_of c) (tail_of c) ≡ true → length t ≤ count_limit → (is_full N c t ≡ true) × (e ≡ RingFull)
