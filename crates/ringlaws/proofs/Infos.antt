-- A TxnInfo read back, and a good TxnInfo as the only unit of its numbers. Assumes nothing.
use Rattle.std.proofs.Common.{◌≡◌, ℕ, zero, suc, ◌+◌, ◌-◌, ◌<◌, ◌≤◌, true, ◌&&◌, eqb, leb, ◌≢◌, ◌⊎◌, List, [], ◌∷◌, ◌++◌, length, get_or, take, drop, replicate, sym, refl, ap, ◌∙◌, inl, inr, arith, length-append}
use Rattle.std.proofs.lemmas.Bool.{and_parts, and_from, leb-true, le-leb, eqb-true, eq-eqb, cases_lt, cases_eq}
use Rattle.std.proofs.lemmas.List.{ext_get_or, get_or_append_left, get_or-append_right, get_or-replicate, get_or-take, get_or-drop, length-replicate, length-take-le, take_at, drop_at}
use Rattle.ringlaws.specs.Layout.{records_of}
use Rattle.ringlaws.specs.TxnInfo.{magic, count_limit, count_word, magic_word, taken, info_unit, count_in, numbers_in, padding_in, distinct, all_below, all_zero, good_count, good_numbers, good_info}

module _ (ns : List ℕ) (le : length ns ≤ count_limit) where
  abbrev pad : List ℕ
  pad = replicate (count_limit - length ns) 0

  abbrev end : List ℕ
  end = length ns ∷ (magic ∷ [])

  pad_long : length pad ≡ count_limit - length ns
  pad_long = length-replicate (count_limit - length ns) 0

  pub info_long : length (info_unit ns) ≡ 32
  info_long = let p = pad_long in length-append ns (pad ++ end) ∙ (let q = length-append pad end in omega arith)

  pub info_number : (k : ℕ) → k < length ns → get_or (info_unit ns) k 0 ≡ get_or ns k 0
  info_number k lt = get_or_append_left ns (pad ++ end) 0 k lt

  past : (k : ℕ) → length ns ≤ k → get_or (info_unit ns) k 0 ≡ get_or (pad ++ end) (k - length ns) 0
  past k ge = get_or-append_right ns (pad ++ end) (length ns) k 0 refl ge

  pub info_zero : (k : ℕ) → length ns ≤ k → k < count_limit → get_or (info_unit ns) k 0 ≡ 0
  info_zero k ge lt =
      past k ge ∙ get_or_append_left pad end 0 (k - length ns) (let p = pad_long in omega arith) ∙ get_or-replicate (count_limit - length ns) (k - length ns) 0 0 (omega arith)

  pub info_end : (k : ℕ) → count_limit ≤ k → get_or (info_unit ns) k 0 ≡ get_or end (k - count_limit) 0
  info_end k ge =
      let z : (k - length ns) - (count_limit - length ns) ≡ k - count_limit = omega arith in
      past k (omega arith) ∙ get_or-append_right pad end (count_limit - length ns) (k - length ns) 0 pad_long (omega arith) ∙ ap (λ i. get_or end i 0) z

  pub info_count : count_in (info_unit ns) ≡ length ns
  info_count = info_end count_word (omega arith)

  pub info_magic : get_or (info_unit ns) magic_word 0 ≡ magic
  info_magic = info_end magic_word (omega arith)

  pub info_numbers : numbers_in (info_unit ns) ≡ ns
  info_numbers = ap (λ k. take k (info_unit ns)) info_count ∙ take_at ns (pad ++ end) (length ns) refl

  info_padding : padding_in (info_unit ns) ≡ pad
  info_padding =
      ap (λ k. take (count_limit - k) (drop k (info_unit ns))) info_count
      ∙ ap (take (count_limit - length ns)) (drop_at ns (pad ++ end) (length ns) refl) ∙ take_at pad end (count_limit - length ns) pad_long

  zeros : (n : ℕ) → all_zero (replicate n 0) ≡ true
  unfolding all_zero
  zeros zero = refl
  zeros (suc n) = zeros n

  -- the TxnInfo of fair numbers is good
  pub info_good : (B left : ℕ) → 1 ≤ length ns → taken (length ns) ≤ left → all_below (records_of B) ns ≡ true → distinct ns ≡ true → good_info B left (info_unit ns) ≡ true
  info_good B left least fits below apart =
      and_from _ _ (eq-eqb (get_or (info_unit ns) magic_word 0) magic info_magic)
      (and_from _ _ (ap (λ k. leb 1 k && (leb k count_limit && leb (taken k) left)) info_count
      ∙ and_from _ _ (le-leb 1 (length ns) least) (and_from _ _ (le-leb (length ns) count_limit le) (le-leb (taken (length ns)) left fits)))
      (and_from _ _ (ap (good_numbers B) info_numbers ∙ and_from _ _ below apart) (ap all_zero info_padding ∙ zeros (count_limit - length ns))))

-- what a good TxnInfo says
pub record Good (B left : ℕ) (u : List ℕ) : Type 0 where
  pub mark : get_or u magic_word 0 ≡ magic
  pub least : 1 ≤ count_in u
  pub most : count_in u ≤ count_limit
  pub fits : taken (count_in u) ≤ left
  pub below : all_below (records_of B) (numbers_in u) ≡ true
  pub apart : distinct (numbers_in u) ≡ true
  pub padding : all_zero (padding_in u) ≡ true

pub good : (B left : ℕ) (u : List ℕ) → good_info B left u ≡ true → Good B left u
good B left u g =
    let (m, rest) = and_parts _ _ g in
    let (k, others) = and_parts _ _ rest in
    let (n, z) = and_parts _ _ others in
    let (b, a) = and_parts _ _ n in
    let (l, more) = and_parts _ _ k in
    let (o, f) = and_parts _ _ more in
    record {
      mark = eqb-true (get_or u magic_word 0) magic m;
      least = leb-true 1 (count_in u) l;
      most = leb-true (count_in u) count_limit o;
      fits = leb-true (taken (count_in u)) left f;
      below = b;
      apart = a;
      padding = z;
    }

pub good_count_lem : (B left : ℕ) (u : List ℕ) → good_info B left u ≡ true → good_count left u ≡ true
good_count_lem B left u g = (and_parts _ _ (and_parts _ _ g).1).0

zero_at : (xs : List ℕ) → all_zero xs ≡ true → (i : ℕ) → get_or xs i 0 ≡ 0
unfolding all_zero
zero_at [] z i = refl
zero_at (x ∷ xs) z zero = eqb-true x 0 (and_parts (eqb x 0) (all_zero xs) z).0
zero_at (x ∷ xs) z (suc i) = zero_at xs (and_parts (eqb x 0) (all_zero xs) z).1 i

pub numbers_long : (u : List ℕ) → length u ≡ 32 → count_in u ≤ count_limit → length (numbers_in u) ≡ count_in u
numbers_long u long most = length-take-le (count_in u) u (omega arith)

-- a good TxnInfo is the TxnInfo of its numbers
pub good_is_info : (B left : ℕ) (u : List ℕ) → length u ≡ 32 → Good B left u → info_unit (numbers_in u) ≡ u
good_is_info B left u long g = ext_get_or 0 (info_unit ns) u (info_long ns le ∙ sym long) (λ k lt. at k (let i = info_long ns le in omega arith) (cases_eq k magic_word) (cases_eq k count_word) (cases_lt k (count_in u)))
  where
    ns : List ℕ
    ns = numbers_in u

    n : length ns ≡ count_in u
    n = numbers_long u long g.most

    le : length ns ≤ count_limit
    le = let e = n in let m = g.most in omega arith

    at : (k : ℕ) → k < 32 → (k ≡ magic_word) ⊎ (k ≢ magic_word) → (k ≡ count_word) ⊎ (k ≢ count_word) → (k < count_in u) ⊎ (count_in u ≤ k) → get_or (info_unit ns) k 0 ≡ get_or u k 0
    at k lt (inl e) y z = ap (λ i. get_or (info_unit ns) i 0) e ∙ info_magic ns le ∙ sym (ap (λ i. get_or u i 0) e ∙ g.mark)
    at k lt (inr a) (inl e) z = ap (λ i. get_or (info_unit ns) i 0) e ∙ info_count ns le ∙ n ∙ sym (ap (λ i. get_or u i 0) e)
    at k lt (inr a) (inr b) (inl s) = info_number ns le k (let e = n in omega arith) ∙ get_or-take (count_in u) u k 0 s
    at k lt (inr a) (inr b) (inr s) =
        let w : count_in u + (k - count_in u) ≡ k = omega arith in
        info_zero ns le k (let e = n in omega arith) (omega arith)
        ∙ sym (ap (λ i. get_or u i 0) (sym w) ∙ sym (get_or-drop (count_in u) u (k - count_in u) 0)
        ∙ sym (get_or-take (count_limit - count_in u) (drop (count_in u) u) (k - count_in u) 0 (omega arith))
        ∙ zero_at (padding_in u) g.padding (k - count_in u))
