-- What loads answer, what a block holds of its records, and the table by places. Assumes nothing.
use Rattle.std.proofs.Common.{◌≡◌, ℕ, ◌+◌, ◌*◌, ◌/◌, ◌%◌, ◌<◌, ◌≤◌, Bool, true, false, cond, leb, List, length, get_or, Ok, Err, Option, Result, unwrap_or, sym, ap, ◌∙◌, arith}
use Rattle.std.proofs.lemmas.Bool.Decides.{nat_tests}
use Rattle.std.proofs.lemmas.List.FromFn.{get_or-map-range_with_len, fill_by_all}
use Rattle.refusal.specs.declared.reason.Refusal.{Refusal}
use Rattle.refusal.specs.declared.reason.Refusal.TheVariants.{Beyond, Dark}
use Rattle.device.specs.Words.{NvmMeaning, loads, words_of}
use Rattle.device.specs.Sectors.{disk_word, block_of}
use Rattle.ringlaws.specs.Layout.{Contents, unit_at, is_ring, home_block, home_word}
use Rattle.ringlaws.specs.TxnInfo.{Transaction}
use Rattle.ringlaws.specs.Spells.{SpellsBetween}
use Rattle.ringlaws.specs.Newest.{newest}
use Rattle.ringlaws.proofs.Units.{unit_long, unit_word}
use Rattle.ringlaws.proofs.Seek.{newest_holds_the_latest, laid_is_the_latest}
use Rattle.ring.specs.Sources.{Agrees, RefusesWithin}
use Rattle.ringunits.specs.Images.{contents_of}
use Rattle.ringunits.proofs.Rings.{ring}
use Rattle.calls.specs.Table.{home_unit, table, table_block}
use Rattle.checkpointing.specs.Rows.{unit_from, row_units}

-- the present words are what loads answer
pub loads_agree : (m : NvmMeaning) → Agrees (loads m) (words_of m)
loads_agree m w v e = by_tests m.dark (leb (32 * m.size) w) e
  where
    by_tests : (t u : Bool) → cond t (Err Dark) (cond u (Err Beyond) (Ok (words_of m w))) ≡ Ok v → words_of m w ≡ v
    by_tests true u h = let z : ◌≡◌ {A = ℕ} 0 1 = cc in absurd (omega arith)
    by_tests false true h = let z : ◌≡◌ {A = ℕ} 0 1 = cc in absurd (omega arith)
    by_tests false false h = cc

-- with power nothing within the size is refused
pub loads_within : (m : NvmMeaning) (u : ℕ) (e : Refusal) → m.dark ≡ false → u ≤ m.size → RefusesWithin (loads m) u e → ⊥
loads_within m u e lit le (w, lt, r) =
    let near : leb (32 * m.size) w ≡ false = grind (arith, nat_tests) in
    let q : ◌≡◌ {A = Result ℕ Refusal} (Ok (words_of m w)) (Err e) =
    sym (ap (λ t. cond t (Err Dark) (cond (leb (32 * m.size) w) (Err Beyond) (Ok (words_of m w)))) lit ∙ ap (λ t. cond t (Err Beyond) (Ok (words_of m w))) near) ∙ r in
    let z : ◌≡◌ {A = ℕ} 0 1 = cc in
    omega arith

-- a record of the table is in its newest place, or at its home
pub table_by_place : (N B : ℕ) (c : Contents) (head tail : ℕ) (ts : List Transaction) (e : ℕ → List ℕ) (r : ℕ) → is_ring N head tail ≡ true → SpellsBetween N B c head tail ts
    → table ts e r ≡ unit_from c (newest N c head tail r) (home_unit e r)
table_by_place N B c head tail ts e r h s =
    let i = ring N head tail h in
    laid_is_the_latest ts (home_unit e) r ∙ ap (λ o. unwrap_or o (home_unit e r)) (sym (newest_holds_the_latest N B c head tail i.head_in i.tail_in ts s r))

pub block_word : (e : ℕ → List ℕ) (b j : ℕ) → j < 512 → get_or (block_of e b) j 0 ≡ disk_word e (512 * b + j)
unfolding block_of
block_word e b j lt = get_or-map-range_with_len (λ i. disk_word e (512 * b + i)) 0 512 j j 0 lt (omega arith)

-- the units of a block are the homes of its records
pub home_in_block : (e : ℕ → List ℕ) (b k : ℕ) → k < 16 → unit_at (contents_of (block_of e b)) k ≡ home_unit e (16 * b + k)
unfolding home_unit
home_in_block e b k lt =
    fill_by_all (λ i. disk_word e (512 * home_block (16 * b + k) + home_word (16 * b + k) + i)) (unit_at (contents_of (block_of e b)) k) 32 0
    (unit_long (contents_of (block_of e b)) k)
    (λ j l.
    let q : 512 * b + (32 * k + j) ≡ 512 * ((16 * b + k) / 16) + 32 * ((16 * b + k) % 16) + j = omega arith in
    unit_word (contents_of (block_of e b)) k j l ∙ block_word e b (32 * k + j) (omega arith) ∙ ap (disk_word e) q)

-- 16 units are a block
pub laid_block : (units : ℕ → List ℕ) (b : ℕ) (buf : List ℕ) → length buf ≡ 512 → ((k : ℕ) → k < 16 → unit_at (contents_of buf) k ≡ units (16 * b + k)) → buf ≡ table_block units b
unfolding table_block
laid_block units b buf long h = fill_by_all (λ i. get_or (units (16 * b + i / 32)) (i % 32) 0) buf 512 0 long (λ j l.
    let q : 32 * (j / 32) + j % 32 ≡ j = omega arith in
    ap (λ x. get_or buf x 0) (sym q) ∙ sym (unit_word (contents_of buf) (j / 32) (j % 32) (omega arith)) ∙ ap (λ u. get_or u (j % 32) 0) (h (j / 32) (omega arith)))

-- a block that was read, with its records' units laid over it, is the table's block
pub block_made : (c : Contents) (place : ℕ → Option ℕ) (e : ℕ → List ℕ) (b : ℕ) (old buf : List ℕ) → old ≡ block_of e b → length buf ≡ 512
    → ((k : ℕ) → k < 16 → unit_at (contents_of buf) k ≡ unit_from c (place (16 * b + k)) (unit_at (contents_of old) k)) → buf ≡ table_block (row_units c place e) b
block_made c place e b old buf is long h =
    laid_block (row_units c place e) b buf long (λ k lt. h k lt ∙ ap (unit_from c (place (16 * b + k))) (ap (λ x. unit_at (contents_of x) k) is ∙ home_in_block e b k lt))
