-- What a mount finds: sizes that fit, and contents that hold a table if they are not refused. Assumes nothing.
use Rattle.std.proofs.Common.{◌≡◌, ℕ, ◌+◌, ◌-◌, Bool, true, false, cond, ◌&&◌, eqb, ltb, leb, List, Some, None, refl, arith}
use Rattle.std.proofs.lemmas.Bool.{and_parts, eqb-true, ltb-true, leb-true}
use Rattle.refusal.specs.declared.reason.Refusal.TheVariants.{BadHeader, NoGroundMark}
use Rattle.ringlaws.specs.Layout.{Contents, ground_mark, ground_word, places_word, blocks_word, head_of, tail_of, least_places, most_places, most_blocks}
use Rattle.ringlaws.specs.Sound.{Verdict, spelled, bad_at, step_back}
use Rattle.ringlaws.proofs.Back.{sound_exactly_if_spelled}
use Rattle.calls.specs.Table.{transactions_of, ring_of, table}
use Rattle.calls.specs.Plans.{Machine, fit_sizes, fit_header, damage, mount_refusal, places_of, blocks_of}
use Rattle.calllaws.specs.Holds.{Holds}
use Rattle.calllaws.specs.FormatLaw.{AnyContents}
use Rattle.order.specs.Order.{EndsThere}

-- a memory within the limits has a unit 0 and its ring
pub size_is : (u blocks : ℕ) → fit_sizes u blocks ≡ true → u ≡ (u - 1) + 1
size_is u blocks h =
    let p = and_parts (ltb least_places u && leb u (most_places + 1)) (leb 1 blocks && leb blocks most_blocks) h in
    let least = ltb-true least_places u (and_parts (ltb least_places u) (leb u (most_places + 1)) p.0).0 in
    omega arith

-- devices of sizes that fit, with whatever contents
pub any_contents : (m : Machine) → EndsThere m → fit_sizes m.devices.nvm.size (blocks_of m) ≡ true → AnyContents (places_of m) (blocks_of m) m.devices
any_contents m ends h =
    let u = m.devices.nvm.size in
    let p = and_parts (ltb least_places u && leb u (most_places + 1)) (leb 1 (blocks_of m) && leb (blocks_of m) most_blocks) h in
    let q = and_parts (ltb least_places u) (leb u (most_places + 1)) p.0 in
    let s = and_parts (leb 1 (blocks_of m)) (leb (blocks_of m) most_blocks) p.1 in
    record {
      least = let a = ltb-true least_places u q.0 in omega arith;
      most = let a = leb-true u (most_places + 1) q.1 in omega arith;
      some = leb-true 1 (blocks_of m) s.0;
      few = leb-true (blocks_of m) most_blocks s.1;
      units = size_is u (blocks_of m) h;
      blocks = refl;
      words_end = ends.nvm;
      sectors_end = ends.disk;
    }

-- contents that are not refused pass each test
record Passed (N B : ℕ) (c : Contents) : Type 0 where
  mark : eqb (c ground_word) ground_mark ≡ true
  header : fit_header N B c ≡ true
  sound : step_back N B c (head_of c) (tail_of c) ≡ spelled (ring_of N B c)

undamaged : (v : Verdict) → damage v ≡ None → v ≡ spelled (transactions_of v)
undamaged (spelled ts) h = refl
undamaged (bad_at place) h = let z : ◌≡◌ {A = ℕ} 0 1 = cc in absurd (omega arith)

passed : (N B : ℕ) (c : Contents) → mount_refusal N B c ≡ None → Passed N B c
passed N B c h =
    let p = go (eqb (c ground_word) ground_mark) (fit_header N B c) (step_back N B c (head_of c) (tail_of c)) h in
    record { mark = p.0; header = p.1; sound = undamaged (step_back N B c (head_of c) (tail_of c)) p.2 }
  where
    go : (x y : Bool) (v : Verdict) → cond x (cond y (damage v) (Some BadHeader)) (Some NoGroundMark) ≡ None → (x ≡ true) × (y ≡ true) × (damage v ≡ None)
    go true true v h = (refl, refl, h)
    go true false v h = let z : ◌≡◌ {A = ℕ} 0 1 = cc in absurd (omega arith)
    go false y v h = let z : ◌≡◌ {A = ℕ} 0 1 = cc in absurd (omega arith)

-- and hold the table that their own ring gives
pub found : (N B : ℕ) (c : Contents) (e : ℕ → List ℕ) → mount_refusal N B c ≡ None → Holds N B c e (ring_of N B c) (table (ring_of N B c) e)
found N B c e h =
    let p = passed N B c h in
    let q = and_parts (eqb (c places_word) N && eqb (c blocks_word) B) (ltb (head_of c) N && ltb (tail_of c) N) p.header in
    let s = and_parts (eqb (c places_word) N) (eqb (c blocks_word) B) q.0 in
    let t = and_parts (ltb (head_of c) N) (ltb (tail_of c) N) q.1 in
    let head = ltb-true (head_of c) N t.0 in
    let tail = ltb-true (tail_of c) N t.1 in
    record {
      mark = eqb-true (c ground_word) ground_mark p.mark;
      places = eqb-true (c places_word) N s.0;
      blocks = eqb-true (c blocks_word) B s.1;
      head = head;
      tail = tail;
      spells = (sound_exactly_if_spelled N B c (head_of c) (tail_of c) head tail (ring_of N B c)).0 p.sound;
      same = λ r lt. refl;
    }
