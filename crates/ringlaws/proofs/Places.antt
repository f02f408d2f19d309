-- Places modulo N, by cases of the wrap. Assumes nothing.
use Rattle.std.proofs.Common.{◌≡◌, ℕ, ◌+◌, ◌-◌, ◌%◌, ◌<◌, ◌≤◌, ◌⊎◌, ◌∙◌, inl, inr, mod-lt, mod-eq_of_lt, arith}
use native.Mathlib.Nat.{mod-eq-sub-mod}
use native.Mathlib.Decide.{dec_lt}
use Rattle.ringlaws.specs.Layout.{after, before, used_between}

pub wrap : (N a : ℕ) → a < N + N → ((a < N) × (a % N ≡ a)) ⊎ ((N ≤ a) × (a % N + N ≡ a))
wrap N a h = go (dec_lt a N)
  where
    go : Dec (a < N) → ((a < N) × (a % N ≡ a)) ⊎ ((N ≤ a) × (a % N + N ≡ a))
    go (yes l) = inl (l, mod-eq_of_lt l)
    go (no n) =
        let g : N ≤ a = omega arith in
        let s : a - N < N = omega arith in
        let e : a % N ≡ a - N = mod-eq-sub-mod g ∙ mod-eq_of_lt s in
        inr (g, omega arith)

pub after_below : (N p k : ℕ) → p < N → after N p k < N
after_below N p k h = mod-lt (p + k) (omega arith)

pub before_below : (N p k : ℕ) → p < N → before N p k < N
before_below N p k h = mod-lt ((p + N) - k) (omega arith)

pub used_below : (N head tail : ℕ) → tail < N → used_between N head tail < N
used_below N head tail h = mod-lt ((tail + N) - head) (omega arith)

-- the tail lies after the used places
pub tail_is : (N head tail : ℕ) → head < N → tail < N → after N head (used_between N head tail) ≡ tail
tail_is N head tail p q =
    let x = wrap N ((tail + N) - head) (omega arith) in
    let l : ((tail + N) - head) % N < N = mod-lt ((tail + N) - head) (omega arith) in
    let y = wrap N (head + ((tail + N) - head) % N) (omega arith) in
    omega arith

-- k places back from the place that is a places on
pub before_after : (N p a k : ℕ) → p < N → a < N → k ≤ a → before N (after N p a) k ≡ after N p (a - k)
before_after N p a k h l le =
    let x = wrap N (p + a) (omega arith) in
    let b : (p + a) % N < N = mod-lt (p + a) (omega arith) in
    let y = wrap N (((p + a) % N + N) - k) (omega arith) in
    let z = wrap N (p + (a - k)) (omega arith) in
    omega arith

-- on and on
pub after_after : (N p a b : ℕ) → p < N → a + b < N → after N (after N p a) b ≡ after N p (a + b)
after_after N p a b h l =
    let x = wrap N (p + a) (omega arith) in
    let q : (p + a) % N < N = mod-lt (p + a) (omega arith) in
    let y = wrap N ((p + a) % N + b) (omega arith) in
    let z = wrap N (p + (a + b)) (omega arith) in
    omega arith

pub used_more : (N head tail n : ℕ) → head < N → tail < N → used_between N head tail + n < N → used_between N head (after N tail n) ≡ used_between N head tail + n
used_more N head tail n p q s =
    let x = wrap N ((tail + N) - head) (omega arith) in
    let y = wrap N (tail + n) (omega arith) in
    let l : (tail + n) % N < N = mod-lt (tail + n) (omega arith) in
    let z = wrap N (((tail + n) % N + N) - head) (omega arith) in
    omega arith

pub used_none : (N tail : ℕ) → tail < N → used_between N tail tail ≡ 0
used_none N tail p =
    let x = wrap N ((tail + N) - tail) (omega arith) in
    omega arith

-- two places less than N apart are different
pub after_apart : (N p a b : ℕ) → p < N → a < b → b < N → after N p a ≡ after N p b → ⊥
after_apart N p a b h lt l e =
    let x = wrap N (p + a) (omega arith) in
    let y = wrap N (p + b) (omega arith) in
    omega arith
