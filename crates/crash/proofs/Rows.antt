-- Lists of stores, flushes and writes: how they join, and rows of them. Assumes nothing.
use Rattle.std.proofs.Common.{◌≡◌, ℕ, zero, suc, ◌+◌, ◌-◌, ◌*◌, ◌/◌, ◌<◌, ◌≤◌, true, false, cond, ◌||◌, eqb, List, [], ◌∷◌, ◌++◌, length, get_or, refl, ap, ◌∙◌, arith}
use Rattle.std.proofs.lemmas.Bool.Decides.{nat_tests}
use Rattle.device.specs.Words.{NvmAct, Store, Flush, nvm_rules}
use Rattle.device.specs.Sectors.{DiskAct, Write, disk_rules}
use Rattle.crash.specs.Runs.{each_of}
use Rattle.crash.specs.Keeping.{nvm_keeps, disk_keeps, kept}
use Rattle.crash.specs.Rows.{storing, flushing, inside, nvm_touches, nvm_flushes, disk_touches, stores_word, flushes_line, writes_block, StoreWithin, FlushWithin, WriteWithin, Stores, Flushes, Writes, UnstoredIsSpared, UnwrittenIsSpared}
use Rattle.crash.proofs.Runs.{each_append, each_each}
use Rattle.crash.proofs.Tame.{nvm_is_tame, disk_is_tame}
use Rattle.crash.proofs.Follow.{kept_append}
use Rattle.crash.proofs.Touching.{some_append, once_join, once_each, missed_spared, nvm_touching, disk_touching}

-- lists of stores that share no word, of writes that share no block
pub stores_join : (u : ℕ) (xs ys : List NvmAct) → Stores u xs → Stores u ys → ((w : ℕ) → stores_word w xs ≡ true → stores_word w ys ≡ false) → Stores u (xs ++ ys)
stores_join u xs ys (h, a) (k, b) apart = (each_append (StoreWithin u) xs ys h k, once_join nvm_touches xs ys a b apart)

pub stores_each : (u : ℕ) (f : ℕ → List NvmAct) (n : ℕ) → ((i : ℕ) → i < n → Stores u (f i))
    → ((i j w : ℕ) → i < j → j < n → stores_word w (f i) ≡ true → stores_word w (f j) ≡ false) → Stores u (each_of f n)
stores_each u f n h apart = (each_each (StoreWithin u) f n (λ i l. (h i l).0), once_each nvm_touches f n (λ i l. (h i l).1) apart)

pub writes_join : (u : ℕ) (xs ys : List DiskAct) → Writes u xs → Writes u ys → ((b : ℕ) → writes_block b xs ≡ true → writes_block b ys ≡ false) → Writes u (xs ++ ys)
writes_join u xs ys (h, a) (k, b) apart = (each_append (WriteWithin u) xs ys h k, once_join disk_touches xs ys a b apart)

pub writes_each : (u : ℕ) (f : ℕ → List DiskAct) (n : ℕ) → ((i : ℕ) → i < n → Writes u (f i))
    → ((i j b : ℕ) → i < j → j < n → writes_block b (f i) ≡ true → writes_block b (f j) ≡ false) → Writes u (each_of f n)
writes_each u f n h apart = (each_each (WriteWithin u) f n (λ i l. (h i l).0), once_each disk_touches f n (λ i l. (h i l).1) apart)

-- one act
pub store_one : (u x v : ℕ) → x < 32 * u → Stores u (Store x v ∷ [])
store_one u x v lt = ((lt, tt), ((λ w e. refl), tt))

pub write_one : (u b : ℕ) (words : List ℕ) → b < u → Writes u (Write b words ∷ [])
write_one u b words lt = ((lt, tt), ((λ x e. refl), tt))

-- a row of stores from the word x on
module _ (x : ℕ) (v : ℕ → ℕ) where
  abbrev pub stores : ℕ → List NvmAct
  stores n = each_of (λ i. Store (x + i) (v i) ∷ []) n

  pub stores_word_lem : (n w : ℕ) → stores_word w (stores n) ≡ inside x (x + n) w
  unfolding each_of
  stores_word_lem zero w = grind (arith, nat_tests)
  stores_word_lem (suc n) w =
      some_append (λ a. nvm_touches a w) (stores n) (Store (x + n) (v n) ∷ [])
      ∙ ap (λ t. t || (eqb w (x + n) || false)) (stores_word_lem n w)
      ∙ grind (arith, nat_tests)

  pub stores_kept : (n w p : ℕ) → kept nvm_keeps (stores n) w p ≡ cond (inside x (x + n) w) (v (w - x)) p
  unfolding each_of
  stores_kept zero w p = grind (arith, nat_tests)
  stores_kept (suc n) w p =
      kept_append nvm_keeps (stores n) (Store (x + n) (v n) ∷ []) w p
      ∙ ap (λ t. cond (eqb w (x + n)) (v n) t) (stores_kept n w p)
      ∙ grind (arith, nat_tests)

  pub stores_row : (u n : ℕ) → x + n ≤ 32 * u → Stores u (stores n)
  stores_row u n fits = stores_each u (λ i. Store (x + i) (v i) ∷ []) n (λ i l. store_one u (x + i) (v i) (omega arith)) (λ i j w l k e. grind (arith, nat_tests))

module _ (x : ℕ) (words : List ℕ) where
  pub storing_word : (w : ℕ) → stores_word w (storing x words) ≡ inside x (x + length words) w
  storing_word = stores_word_lem x (λ i. get_or words i 0) (length words)

  pub storing_kept : (w p : ℕ) → kept nvm_keeps (storing x words) w p ≡ cond (inside x (x + length words) w) (get_or words (w - x) 0) p
  storing_kept = stores_kept x (λ i. get_or words i 0) (length words)

  pub storing_row : (u : ℕ) → x + length words ≤ 32 * u → Stores u (storing x words)
  storing_row u = stores_row x (λ i. get_or words i 0) u (length words)

-- a row of flushes from the line l on
module _ (l : ℕ) where
  pub flushing_line : (k line : ℕ) → flushes_line line (flushing l k) ≡ inside l (l + k) line
  unfolding each_of
  flushing_line zero line = grind (arith, nat_tests)
  flushing_line (suc k) line =
      some_append (λ a. nvm_flushes a line) (flushing l k) (Flush (l + k) ∷ [])
      ∙ ap (λ t. t || (eqb line (l + k) || false)) (flushing_line k line)
      ∙ grind (arith, nat_tests)

  pub flushing_row : (u k : ℕ) → l + k ≤ 4 * u → Flushes u (flushing l k)
  flushing_row u k fits = each_each (FlushWithin u) (λ i. Flush (l + i) ∷ []) k (λ i lt. (omega arith, tt))

-- what is not stored, or not written, is spared
pub unstored_spared : UnstoredIsSpared
unstored_spared = missed_spared nvm_rules nvm_keeps nvm_touches nvm_is_tame nvm_touching

pub unwritten_spared : UnwrittenIsSpared
unwritten_spared = missed_spared disk_rules disk_keeps (λ a s. disk_touches a (s / 8)) disk_is_tame disk_touching
