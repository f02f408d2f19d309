-- The words of a TxnInfo and of a transaction's places, made one by one. Assumes nothing.
use Rattle.std.proofs.Common.{rules, ◌-◌, ◌++◌, drop, subst, ◌≡◌, ℕ, ◌+◌, ◌<◌, ◌≤◌, ◌≢◌, ◌⊎◌, List, length, get_or, set, replicate, sym, ap, ◌∙◌, inl, inr, arith, length-set, get_or-set_other, get_or-set_same}
use Rattle.std.proofs.lemmas.Bool.{cases_lt, cases_eq}
use Rattle.std.proofs.lemmas.List.{places, ext_get_or}
use Rattle.ringlaws.specs.TxnInfo.{magic, count_limit, info_unit}
use Rattle.ringlaws.proofs.Infos.{info_long, info_number, info_zero, info_count, info_magic}

-- the first i words are numbers, the others zero
abbrev pub Begun : List ℕ → ℕ → List ℕ → Type 0
Begun ns i words =
    (length words ≡ 32)
    × ((k : ℕ) → k < i → get_or words k 0 ≡ get_or ns k 0)
    × ((k : ℕ) → i ≤ k → k < 32 → get_or words k 0 ≡ 0)

-- the numbers are put over the first of 32 zeros
begun : (ns : List ℕ) → length ns ≤ count_limit → Begun ns (length ns) (ns ++ drop (length ns) (replicate 32 0))
begun ns le = (search (rules, places), (λ k lt. search (rules, places)), (λ k ge lt. let z : length ns + (k - length ns) < 32 = omega arith in search (rules, places)))

pub info_made : (ns : List ℕ) → length ns ≤ count_limit → (words : List ℕ) → words ≡ ns ++ drop (length ns) (replicate 32 0) → set (set words 30 (length ns)) 31 magic ≡ info_unit ns
info_made ns le words made =
    ext_get_or 0 (set (set words 30 (length ns)) 31 magic) (info_unit ns) same_long
    (λ k lt. at k (let l = same_long in let m = info_long ns le in omega arith) (cases_eq k 31) (cases_eq k 30) (cases_lt k (length ns)))
  where
    b : Begun ns (length ns) words
    b = subst (Begun ns (length ns)) (sym made) (begun ns le)

    long : length words ≡ 32
    long = b.0

    set_long : length (set words 30 (length ns)) ≡ 32
    set_long = length-set words 30 (length ns) ∙ long

    same_long : length (set (set words 30 (length ns)) 31 magic) ≡ length (info_unit ns)
    same_long = length-set (set words 30 (length ns)) 31 magic ∙ set_long ∙ sym (info_long ns le)

    at : (k : ℕ) → k < 32 → (k ≡ 31) ⊎ (k ≢ 31) → (k ≡ 30) ⊎ (k ≢ 30) → (k < length ns) ⊎ (length ns ≤ k) → get_or (set (set words 30 (length ns)) 31 magic) k 0 ≡ get_or (info_unit ns) k 0
    at k lt (inl e) y z =
        let h : 31 < length (set words 30 (length ns)) = let s = set_long in omega arith in
        ap (λ i. get_or (set (set words 30 (length ns)) 31 magic) i 0) e ∙ rw get_or-set_same (sym (ap (λ i. get_or (info_unit ns) i 0) e ∙ info_magic ns le))
    at k lt (inr n) (inl e) z =
        let h : 30 < length words = let l = long in omega arith in
        rw get_or-set_other (ap (λ i. get_or (set words 30 (length ns)) i 0) e ∙ rw get_or-set_same (sym (ap (λ i. get_or (info_unit ns) i 0) e ∙ info_count ns le)))
    at k lt (inr n) (inr o) (inl s) = rw (get_or-set_other, get_or-set_other) (b.1 k (omega arith) ∙ sym (info_number ns le k s))
    at k lt (inr n) (inr o) (inr g) = rw (get_or-set_other, get_or-set_other) (b.2 k (omega arith) lt ∙ sym (info_zero ns le k g (omega arith)))
