-- What changes of words and marks do to sectors. Assumes nothing.
use Rattle.std.specs.Prelude.{◌≡◌, ℕ, ◌+◌, ◌-◌, ◌*◌, ◌/◌, ◌%◌, ◌<◌, Bool, true, false, cond, not, ◌&&◌, List, length, get_or, Some, None, ◌==◌, nat_eq, slice_index, slice_index_or, refl}
use Rattle.std.proofs.Common.{sym, ap, ◌∙◌, arith}
use Rattle.std.proofs.lemmas.Bool.Decides.{nat_tests}
use Rattle.std.proofs.lemmas.Bool.{eqb-true, cond-true, cond-false, true≢false}
use Rattle.std.proofs.lemmas.List.FromFn.{length-map-range_with_len, get_or-map-range_with_len, fill_by_all}
use Rattle.refusal.specs.declared.reason.Refusal.TheVariants.{Dark, Beyond, Unsettled}
use Rattle.device.specs.declared.comeback.Comeback.{Comeback}
use Rattle.device.specs.Pieces.{settled, unsettled, settled_value, present_value, is_unsettled}
use Rattle.device.specs.Devices.{refusal_of}
use Rattle.device.specs.Sectors.{waits, Sector, DiskMeaning, DiskAct, Write, sector_of, disk_makes, any_below, disk_rules, disk_beyond, disk_blocked, disk_word, block_of}
use Rattle.simulated.specs.Lists.{inside, member}
use Rattle.simulated.specs.Natures.{takes_new}
use Rattle.disks.specs.Rows.{sector_at, goes_back}
use Rattle.disks.specs.Any.{any_false, any_same}

-- the words of a sector
pub sector_word : (words : List ℕ) (s i : ℕ) → i < 64 → slice_index (sector_of words s) i ≡ slice_index words (64 * s + i)
unfolding sector_of
sector_word words s i l = get_or-map-range_with_len (λ k. slice_index words (64 * s + k)) 0 64 i i 0 l (omega arith)

-- sectors whose words agree are equal
pub same_sector : (xs ys : List ℕ) (s t : ℕ) → ((i : ℕ) → i < 64 → slice_index xs (64 * s + i) ≡ slice_index ys (64 * t + i)) → sector_of xs s ≡ sector_of ys t
unfolding sector_of
same_sector xs ys s t h =
    fill_by_all (λ k. slice_index ys (64 * t + k)) (sector_of xs s) 64 0 (length-map-range_with_len (λ k. slice_index xs (64 * s + k)) 0 64) (λ i l. sector_word xs s i l ∙ h i l)

pub present_of : (t : Bool) (a b : List ℕ) → present_value (cond {A = Sector} t (unsettled waits a b) (settled b)) ≡ b
present_of true a b = refl
present_of false a b = refl

pub waits_of : (t : Bool) (a b : List ℕ) → is_unsettled (cond {A = Sector} t (unsettled waits a b) (settled b)) ≡ t
waits_of true a b = refl
waits_of false a b = refl

settled_of : (t : Bool) (a b : List ℕ) → t ≡ false → settled_value (cond {A = Sector} t (unsettled waits a b) (settled b)) ≡ b
settled_of true a b e = absurd (true≢false e)
settled_of false a b e = refl

-- a sector by its parts
pub same_parts : (ss ss' ps ps' : List ℕ) (ms ms' : List Bool) (s : ℕ) → sector_of ss' s ≡ sector_of ss s → sector_of ps' s ≡ sector_of ps s → slice_index_or ms' s false ≡ slice_index_or ms s false → sector_at ss' ps' ms' s ≡ sector_at ss ps ms s
same_parts ss ss' ps ps' ms ms' s a b m =
    ap (λ t. cond t (unsettled waits (sector_of ss' s) (sector_of ps' s)) (settled (sector_of ps' s))) m
    ∙ ap (λ x. cond (slice_index_or ms s false) (unsettled waits x (sector_of ps' s)) (settled (sector_of ps' s))) a
    ∙ ap (λ x. cond (slice_index_or ms s false) (unsettled waits (sector_of ss s) x) (settled x)) b

-- none of a block's sectors waits
pub none_waits : (ms : List Bool) (b : ℕ) → any_below (λ k. get_or ms (8 * b + k) false) 8 ≡ false → (s : ℕ) → s / 8 ≡ b → slice_index_or ms s false ≡ false
none_waits ms b e s q =
    let back : 8 * b + s % 8 ≡ s = omega arith in
    ap (λ k. get_or ms k false) (sym back) ∙ any_false _ 8 e (s % 8) (omega arith)

-- the block of a sector's word
block_of_lem : (s i : ℕ) → i < 64 → (64 * s + i) / 512 ≡ s / 8
block_of_lem s i l = omega arith

-- the block b was written with buf
module _ (ss ps ss' ps' buf : List ℕ) (ms ms' : List Bool) (b : ℕ)
    (olds : (w : ℕ) → slice_index ss' w ≡ cond (w / 512 == b) (slice_index ps w) (slice_index ss w))
    (news : (w : ℕ) → slice_index ps' w ≡ cond (w / 512 == b) (slice_index buf (w - 512 * b)) (slice_index ps w))
    (marks : (s : ℕ) → slice_index_or ms' s false ≡ cond (inside (8 * b) (8 * b + 8) s) true (slice_index_or ms s false))
    (calm : (s : ℕ) → s / 8 ≡ b → slice_index_or ms s false ≡ false) where
  -- by whether a sector is one of the block's
  test : (s i : ℕ) (t : Bool) → (s / 8 == b) ≡ t → i < 64 → ((64 * s + i) / 512 == b) ≡ t
  test s i t e l = ap (λ k. nat_eq k b) (block_of_lem s i l) ∙ e

  mark : (s : ℕ) (t : Bool) → (s / 8 == b) ≡ t → slice_index_or ms' s false ≡ cond t true (slice_index_or ms s false)
  mark s t e = marks s ∙ ap (λ x. cond x true (slice_index_or ms s false)) (let y : inside (8 * b) (8 * b + 8) s ≡ nat_eq (s / 8) b = grind (arith, nat_tests) in y ∙ e)

  old_word : (s i : ℕ) (t : Bool) → (s / 8 == b) ≡ t → i < 64 → slice_index ss' (64 * s + i) ≡ cond t (slice_index ps (64 * s + i)) (slice_index ss (64 * s + i))
  old_word s i t e l = olds (64 * s + i) ∙ ap (λ x. cond x (slice_index ps (64 * s + i)) (slice_index ss (64 * s + i))) (test s i t e l)

  new_word : (s i : ℕ) (t : Bool) → (s / 8 == b) ≡ t → i < 64 → slice_index ps' (64 * s + i) ≡ cond t (slice_index buf (64 * s + i - 512 * b)) (slice_index ps (64 * s + i))
  new_word s i t e l = news (64 * s + i) ∙ ap (λ x. cond x (slice_index buf (64 * s + i - 512 * b)) (slice_index ps (64 * s + i))) (test s i t e l)

  pub written : (s : ℕ) → sector_at ss' ps' ms' s ≡ disk_makes (Write b buf) s (sector_at ss ps ms s)
  written s = by_test (s / 8 == b) refl
    where
      by_test : (t : Bool) → (s / 8 == b) ≡ t → sector_at ss' ps' ms' s ≡ cond t (unsettled waits (settled_value (sector_at ss ps ms s)) (sector_of buf (s % 8))) (sector_at ss ps ms s)
      by_test true e =
          let q = eqb-true (s / 8) b e in
          cond-true (slice_index_or ms' s false) _ _ (mark s true e)
          ∙ ap (λ x. unsettled waits x (sector_of ps' s)) (same_sector ss' ps s s (λ i l. old_word s i true e l) ∙ sym (settled_of (slice_index_or ms s false) (sector_of ss s) (sector_of ps s) (calm s q)))
          ∙ ap (unsettled waits (settled_value (sector_at ss ps ms s))) (same_sector ps' buf s (s % 8) (λ i l.
          let k : 64 * s + i - 512 * b ≡ 64 * (s % 8) + i = omega arith in new_word s i true e l ∙ ap (λ n. slice_index buf n) k))
      by_test false e =
          same_parts ss ss' ps ps' ms ms' s (same_sector ss' ss s s (λ i l. old_word s i false e l)) (same_sector ps' ps s s (λ i l. new_word s i false e l)) (mark s false e)

-- without its mark a sector is settled at its present words
pub now_settled : (ss ps : List ℕ) (ms ms' : List Bool) (s : ℕ) → slice_index_or ms' s false ≡ false → sector_at ss ps ms' s ≡ settled (present_value (sector_at ss ps ms s))
now_settled ss ps ms ms' s e = cond-false (slice_index_or ms' s false) _ _ e ∙ ap settled (sym (present_of (slice_index_or ms s false) (sector_of ss s) (sector_of ps s)))

-- what the marks say of the sectors of a block
pub marked : (ss ps : List ℕ) (ms : List Bool) (b : ℕ) → any_below (λ k. is_unsettled (sector_at ss ps ms (8 * b + k))) 8 ≡ any_below (λ k. get_or ms (8 * b + k) false) 8
marked ss ps ms b = any_same _ _ 8 (λ k l. waits_of (slice_index_or ms (8 * b + k) false) _ _)

-- the word w of the present sectors
pub present_word : (ss ps : List ℕ) (ms : List Bool) (w : ℕ) → disk_word (λ s. present_value (sector_at ss ps ms s)) w ≡ slice_index ps w
present_word ss ps ms w =
    let q : 64 * (w / 64) + w % 64 ≡ w = omega arith in
    ap (λ (xs : List ℕ). slice_index xs (w % 64)) (present_of (slice_index_or ms (w / 64) false) (sector_of ss (w / 64)) (sector_of ps (w / 64)))
    ∙ sector_word ps (w / 64) (w % 64) (omega arith) ∙ ap (λ k. slice_index ps k) q

-- the word w of the settled sectors
pub settled_word : (ss ps : List ℕ) (ms : List Bool) (w : ℕ) → disk_word (λ s. settled_value (sector_at ss ps ms s)) w ≡ cond (slice_index_or ms (w / 64) false) (slice_index ss w) (slice_index ps w)
settled_word ss ps ms w = by_test (slice_index_or ms (w / 64) false)
  where
    back : 64 * (w / 64) + w % 64 ≡ w
    back = omega arith

    word : (xs : List ℕ) → slice_index (sector_of xs (w / 64)) (w % 64) ≡ slice_index xs w
    word xs = sector_word xs (w / 64) (w % 64) (omega arith) ∙ ap (λ k. slice_index xs k) back

    by_test : (t : Bool) → slice_index (settled_value (cond {A = Sector} t (unsettled waits (sector_of ss (w / 64)) (sector_of ps (w / 64))) (settled (sector_of ps (w / 64))))) (w % 64) ≡ cond t (slice_index ss w) (slice_index ps w)
    by_test true = word ss
    by_test false = word ps

-- a copied block
pub copied : (ss ps buf : List ℕ) (ms : List Bool) (b : ℕ) → length buf ≡ 512 → ((j : ℕ) → j < 512 → slice_index buf j ≡ slice_index ps (512 * b + j))
    → buf ≡ block_of (λ s. present_value (sector_at ss ps ms s)) b
unfolding block_of
copied ss ps buf ms b long h =
    fill_by_all (λ i. disk_word (λ s. present_value (sector_at ss ps ms s)) (512 * b + i)) buf 512 0 long (λ j l. h j l ∙ sym (present_word ss ps ms (512 * b + j)))

-- a refusal, by what the tests found
pub judged : (m : DiskMeaning) (a : DiskAct) (x y z : Bool) → m.dark ≡ x → disk_beyond m.size a ≡ y → disk_blocked m.piece a ≡ z
    → refusal_of disk_rules m a ≡ cond x (Some Dark) (cond y (Some Beyond) (cond z (Some Unsettled) None))
judged m a x y z p q r =
    ap (λ t. cond t (Some Dark) (cond (disk_beyond m.size a) (Some Beyond) (cond (disk_blocked m.piece a) (Some Unsettled) None))) p
    ∙ ap (λ t. cond x (Some Dark) (cond t (Some Beyond) (cond (disk_blocked m.piece a) (Some Unsettled) None))) q
    ∙ ap (λ t. cond x (Some Dark) (cond y (Some Beyond) (cond t (Some Unsettled) None))) r

-- What comes back of the sectors, if each sector that waits is in a listed block.
module _ (ss ps ps' : List ℕ) (ms : List Bool) (how : Comeback) (queue : List ℕ)
    (listed : (s : ℕ) → slice_index_or ms s false ≡ true → member (s / 8) queue ≡ true)
    (h : (w : ℕ) → slice_index ps' w ≡ cond (member (w / 512) queue && goes_back ms how (w / 64)) (slice_index ss w) (slice_index ps w)) where
  -- a sector goes back by its own test
  own_test : (s : ℕ) → (member (s / 8) queue && goes_back ms how s) ≡ goes_back ms how s
  own_test s = by_tests (member (s / 8) queue) (slice_index_or ms s false) refl refl
    where
      by_tests : (t u : Bool) → member (s / 8) queue ≡ t → slice_index_or ms s false ≡ u → (t && (u && not (takes_new how s))) ≡ (u && not (takes_new how s))
      by_tests true u i j = refl
      by_tests false true i j = absurd (true≢false (sym (listed s j) ∙ i))
      by_tests false false i j = refl

  word : (s i : ℕ) (t : Bool) → goes_back ms how s ≡ t → i < 64 → slice_index ps' (64 * s + i) ≡ cond t (slice_index ss (64 * s + i)) (slice_index ps (64 * s + i))
  word s i t e l =
      let near : (64 * s + i) / 64 ≡ s = omega arith in
      h (64 * s + i)
      ∙ ap (λ x. cond x (slice_index ss (64 * s + i)) (slice_index ps (64 * s + i))) (
      ap (λ k. member k queue && goes_back ms how ((64 * s + i) / 64)) (block_of_lem s i l) ∙ ap (λ k. member (s / 8) queue && goes_back ms how k) near ∙ own_test s ∙ e
      )

  came : (s : ℕ) → sector_of ps' s ≡ cond (takes_new how s) (present_value (sector_at ss ps ms s)) (settled_value (sector_at ss ps ms s))
  came s = by_tests (slice_index_or ms s false) (takes_new how s) refl refl
    where
      by_tests : (u t : Bool) → slice_index_or ms s false ≡ u → takes_new how s ≡ t
          → sector_of ps' s ≡ cond t (present_value (cond {A = Sector} u (unsettled waits (sector_of ss s) (sector_of ps s)) (settled (sector_of ps s)))) (settled_value (cond {A = Sector} u (unsettled waits (sector_of ss s) (sector_of ps s)) (settled (sector_of ps s))))
      by_tests true true i j = same_sector ps' ps s s (λ k l. word s k false (ap (λ x. x && not (takes_new how s)) i ∙ ap not j) l)
      by_tests true false i j = same_sector ps' ss s s (λ k l. word s k true (ap (λ x. x && not (takes_new how s)) i ∙ ap not j) l)
      by_tests false true i j = same_sector ps' ps s s (λ k l. word s k false (ap (λ x. x && not (takes_new how s)) i) l)
      by_tests false false i j = same_sector ps' ps s s (λ k l. word s k false (ap (λ x. x && not (takes_new how s)) i) l)

  pub came_back : (s : ℕ) → ◌≡◌ {A = Sector} (settled (present_value (sector_at ss ps' ms s))) (settled (cond (takes_new how s) (present_value (sector_at ss ps ms s)) (settled_value (sector_at ss ps ms s))))
  came_back s = ap settled (present_of (slice_index_or ms s false) (sector_of ss s) (sector_of ps' s) ∙ came s)
