-- The homes of the records: each lies within one sector, and in a block as the table has it there is the table's unit. Assumes
-- nothing.
use Rattle.std.proofs.Common.{◌≡◌, ℕ, ◌+◌, ◌*◌, ◌/◌, ◌%◌, ◌<◌, List, length, get_or, replicate, sym, ap, ◌∙◌, arith}
use Rattle.std.proofs.lemmas.List.{length-replicate, get_or-replicate}
use Rattle.std.proofs.lemmas.List.FromFn.{length-map-range_with_len, get_or-map-range_with_len, fill_by_all}
use Rattle.device.specs.Sectors.{sector_of, disk_word}
use Rattle.ringlaws.specs.Layout.{home_block, home_word}
use Rattle.calls.specs.Table.{home_unit, table_block, zero_unit}

-- where the home of record r begins, in words of the disk
abbrev home_at : ℕ → ℕ
home_at r = 512 * home_block r + home_word r

pub home_long : (e : ℕ → List ℕ) (r : ℕ) → length (home_unit e r) ≡ 32
unfolding home_unit
home_long e r = length-map-range_with_len (λ i. disk_word e (home_at r + i)) 0 32

-- a home by its words
home_is : (e : ℕ → List ℕ) (r : ℕ) (u : List ℕ) → length u ≡ 32 → ((i : ℕ) → i < 32 → get_or u i 0 ≡ disk_word e (home_at r + i)) → u ≡ home_unit e r
unfolding home_unit
home_is e r u long h = fill_by_all (λ i. disk_word e (home_at r + i)) u 32 0 long h

home_word_lem : (e : ℕ → List ℕ) (r i : ℕ) → i < 32 → get_or (home_unit e r) i 0 ≡ disk_word e (home_at r + i)
unfolding home_unit
home_word_lem e r i lt = get_or-map-range_with_len (λ j. disk_word e (home_at r + j)) 0 32 i i 0 lt (omega arith)

home_sector : (r i : ℕ) → i < 32 → (home_at r + i) / 64 ≡ r / 2
home_sector r i lt = omega arith

near_word : (e f : ℕ → List ℕ) (r i : ℕ) → f (r / 2) ≡ e (r / 2) → i < 32 → disk_word f (home_at r + i) ≡ disk_word e (home_at r + i)
near_word e f r i h lt =
    let q = home_sector r i lt in
    ap (λ s. get_or (f s) ((home_at r + i) % 64) 0) q ∙ ap (λ x. get_or x ((home_at r + i) % 64) 0) h ∙ ap (λ s. get_or (e s) ((home_at r + i) % 64) 0) (sym q)

-- a home lies within one sector
pub home_near : (e f : ℕ → List ℕ) (r : ℕ) → f (r / 2) ≡ e (r / 2) → home_unit f r ≡ home_unit e r
home_near e f r h = home_is e r (home_unit f r) (home_long f r) (λ i lt. home_word_lem f r i lt ∙ near_word e f r i h lt)

-- a word of a sector of a block as the table has it
block_word : (units : ℕ → List ℕ) (b k i : ℕ) → k < 8 → i < 64 → get_or (sector_of (table_block units b) k) i 0 ≡ get_or (units (16 * b + (64 * k + i) / 32)) ((64 * k + i) % 32) 0
unfolding sector_of table_block
block_word units b k i lk li =
    get_or-map-range_with_len (λ j. get_or (table_block units b) (64 * k + j) 0) 0 64 i i 0 li (omega arith)
    ∙ get_or-map-range_with_len (λ j. get_or (units (16 * b + j / 32)) (j % 32) 0) 0 512 (64 * k + i) (64 * k + i) 0 (omega arith) (omega arith)

table_word : (units : ℕ → List ℕ) (r i : ℕ) → i < 32
    → get_or (sector_of (table_block units (r / 16)) (r / 2 % 8)) ((home_at r + i) % 64) 0 ≡ get_or (units r) i 0
table_word units r i lt =
    let q : 16 * (r / 16) + (64 * (r / 2 % 8) + (home_at r + i) % 64) / 32 ≡ r = omega arith in
    let k : (64 * (r / 2 % 8) + (home_at r + i) % 64) % 32 ≡ i = omega arith in
    block_word units (r / 16) (r / 2 % 8) ((home_at r + i) % 64) (omega arith) (omega arith)
    ∙ ap (λ x. get_or (units x) ((64 * (r / 2 % 8) + (home_at r + i) % 64) % 32) 0) q
    ∙ ap (λ x. get_or (units r) x 0) k

-- where the sector is as the table has it, the home is the table's unit
pub home_written : (units : ℕ → List ℕ) (f : ℕ → List ℕ) (r : ℕ) → length (units r) ≡ 32 → f (r / 2) ≡ sector_of (table_block units (r / 16)) (r / 2 % 8)
    → home_unit f r ≡ units r
home_written units f r long h = sym (home_is f r (units r) long (λ i lt.
    sym (ap (λ s. get_or (f s) ((home_at r + i) % 64) 0) (home_sector r i lt) ∙ ap (λ x. get_or x ((home_at r + i) % 64) 0) h ∙ table_word units r i lt)))

-- 512 zero words are a block of absent records
pub zero_block : (b : ℕ) → replicate 512 0 ≡ table_block (λ r. zero_unit) b
unfolding table_block
zero_block b =
    fill_by_all (λ i. get_or zero_unit (i % 32) 0) (replicate 512 0) 512 0 (length-replicate {A = ℕ} 512 0)
    (λ k lt. get_or-replicate 512 k 0 0 lt ∙ sym (get_or-replicate 32 (k % 32) 0 0 (omega arith)))
