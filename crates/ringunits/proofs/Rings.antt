-- What the test of a ring's numbers tells. Assumes nothing.
use Rattle.std.proofs.Common.{◌≡◌, ℕ, ◌<◌, ◌≤◌, true}
use Rattle.std.proofs.lemmas.Bool.{and_parts, ltb-true, leb-true}
use Rattle.ringlaws.specs.Layout.{most_places, is_ring}

-- what is known of a ring's numbers
pub record Ring (N head tail : ℕ) : Type 0 where
  pub most : N ≤ most_places
  pub head_in : head < N
  pub tail_in : tail < N

pub ring : (N head tail : ℕ) → is_ring N head tail ≡ true → Ring N head tail
ring N head tail e =
    let (m, rest) = and_parts _ _ e in
    let (h, t) = and_parts _ _ rest in
    record { most = leb-true N most_places m; head_in = ltb-true head N h; tail_in = ltb-true tail N t }
