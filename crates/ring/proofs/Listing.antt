-- The transactions kept on the walk. Assumes nothing.
use Rattle.std.proofs.Common.{◌≡◌, ℕ, suc, ◌+◌, ◌<◌, ◌≤◌, true, List, [], ◌∷◌, ◌++◌, map, reverse, length, get_or, take, vec_items, Vec, sym, refl, ap, ◌∙◌, arith}
use mathlib.Core.List.{reverse_aux}
use Rattle.std.proofs.lemmas.List.{take_more, take_all, length-take-le, map_push, reverse-append}
use Rattle.std.specs.declared.alloc.Global.{Global}
use Rattle.refusal.specs.declared.reason.Refusal.{Refusal}
use Rattle.ringlaws.specs.declared.setting.Setting.{Setting}
use Rattle.ringlaws.specs.Layout.{Contents, unit_at, place_at, after, is_ring}
use Rattle.ringlaws.specs.TxnInfo.{Transaction}
use Rattle.ringlaws.specs.Sound.{spelled, settings_at, stepping_back, step_back}
use Rattle.ringlaws.specs.Laws.{IsTheList}
use Rattle.ringlaws.proofs.Bad.{step_end}
use Rattle.ringlaws.proofs.Back.{the_list_is_the_one}
use Rattle.ring.specs.declared.step.Step.{Step}
use Rattle.ring.specs.Sources.{Reading, Agrees, RefusesWithin}
use Rattle.ring.specs.Walks.{Stepped, transactions_in}
use Rattle.ringunits.proofs.Rings.{ring}
use Rattle.ring.proofs.Walking.{over, goes_on}

pub wider : (reads : Reading) (a b : ℕ) (e : Refusal) → a ≤ b → RefusesWithin reads a e → RefusesWithin reads b e
wider reads a b e le (w, lt, r) = (w, omega arith, r)

module _ (N : ℕ) (c : Contents) (first : ℕ) where
  pub settings_none : [] ≡ settings_at N c first 0 []
  unfolding settings_at
  settings_none = refl

  settings_push : (k : ℕ) (ns : List ℕ) (n : ℕ) → settings_at N c first k (ns ++ n ∷ []) ≡ settings_at N c first k ns ++ record { number = n; unit = place_at c (after N first (k + length ns)) } ∷ []
  unfolding settings_at
  settings_push k [] n =
      let z : k ≡ k + 0 = omega arith in
      let one : ℕ → Transaction = λ j. record { number = n; unit = place_at c (after N first j) } ∷ [] in
      ap one z
  settings_push k (m ∷ ns) n =
      let z : suc k + length ns ≡ k + suc (length ns) = omega arith in
      ap (λ (t : Transaction). record { number = m; unit = place_at c (after N first k) } ∷ t)
      (settings_push (suc k) ns n ∙ ap (λ (j : ℕ). settings_at N c first (suc k) ns ++ record { number = n; unit = place_at c (after N first j) } ∷ []) z)

  -- one more setting is read
  pub read_more : (xs : List ℕ) (i : ℕ) → i < length xs → (items more : Transaction) (unit : List ℕ) (place : ℕ) → items ≡ settings_at N c first 0 (take i xs)
      → more ≡ items ++ record { number = get_or xs i 0; unit = unit } ∷ [] → place ≡ after N first i → unit ≡ unit_at c (place + 1) → more ≡ settings_at N c first 0 (take (i + 1) xs)
  read_more xs i lt items more unit place e m p u =
      let z : i ≡ 0 + length (take i xs) = let l = length-take-le i xs (omega arith) in omega arith in
      m ∙ ap (λ (v : List ℕ). items ++ record { number = get_or xs i 0; unit = v } ∷ []) (u ∙ ap (λ q. unit_at c (q + 1)) p)
      ∙ ap (λ (j : ℕ). items ++ record { number = get_or xs i 0; unit = place_at c (after N first j) } ∷ []) z
      ∙ ap (λ (t : Transaction). t ++ record { number = get_or xs i 0; unit = place_at c (after N first (0 + length (take i xs))) } ∷ []) e
      ∙ sym (settings_push 0 (take i xs) (get_or xs i 0)) ∙ ap (settings_at N c first 0) (sym (take_more xs i 0 lt))

  pub read_all : (xs : List ℕ) (i : ℕ) → length xs ≤ i → (items : Transaction) → items ≡ settings_at N c first 0 (take i xs) → items ≡ settings_at N c first 0 xs
  read_all xs i le items e = e ∙ ap (settings_at N c first 0) (take_all i xs le)

-- the newest transaction was kept last
pub newest_first : {X Y : Type 0} (f : X → Y) (xs : List X) (x : X) → reverse (map f (xs ++ x ∷ [])) ≡ f x ∷ reverse (map f xs)
newest_first f xs x = ap reverse (map_push f xs x) ∙ reverse-append (map f xs) (f x ∷ [])

map_reverse : {X Y : Type 0} (f : X → Y) (xs : List X) → map f (reverse xs) ≡ reverse (map f xs)
map_reverse {X = X} f xs = go xs []
  where
    go : (xs r : List X) → map f (reverse_aux xs r) ≡ reverse_aux (map f xs) (map f r)
    go [] r = refl
    go (x ∷ xs) r = go xs (x ∷ r)

-- a walk that has come to a place, and has kept these transactions on its way, the newest first
abbrev pub Kept : Reading → ℕ → ℕ → ℕ → ℕ → ℕ → ℕ → List (Vec Setting Global) → Type 0
Kept reads N B head tail place left kept =
    (c : Contents) → Agrees reads c → step_back N B c head tail ≡ stepping_back N B c left place left (reverse (map vec_items kept))

module _ (reads : Reading) (N B head tail place left : ℕ) (kept : List (Vec Setting Global)) where
  pub kept_on : (s : Step) → Stepped reads N B place left s → 0 < left → (t : Vec Setting Global) (n : ℕ) → n ≡ s.count
      → ((c : Contents) → Agrees reads c → vec_items t ≡ settings_at N c s.first 0 (take n s.info))
      → Kept reads N B head tail place left kept → Kept reads N B head tail s.first s.left (kept ++ t ∷ [])
  kept_on s st lt t n same is w c a =
      w c a ∙ goes_on reads N B place left s st c a lt (reverse (map vec_items kept))
      ∙ ap (λ (x : Transaction). stepping_back N B c s.left s.first s.left (x ∷ reverse (map vec_items kept)))
      (over reads N B place left s st c a ∙ sym (is c a ∙ ap (λ k. settings_at N c s.first 0 (take k s.info)) (same ∙ st.count)))
      ∙ ap (stepping_back N B c s.left s.first s.left) (sym (newest_first vec_items kept t))

  pub kept_all : is_ring N head tail ≡ true → left ≤ 0 → Kept reads N B head tail place left kept → (v : Vec (Vec Setting Global) Global) → vec_items v ≡ reverse kept
      → (c : Contents) → Agrees reads c → IsTheList N B c head tail (transactions_in v)
  kept_all r le w v e c a =
      let i = ring N head tail r in
      let z : left ≡ 0 = omega arith in
      let same : reverse (map vec_items kept) ≡ transactions_in v = sym (map_reverse vec_items kept) ∙ ap (map vec_items) (sym e) in
      the_list_is_the_one N B c head tail i.head_in i.tail_in (transactions_in v)
      (w c a ∙ ap (λ k. stepping_back N B c k place k (reverse (map vec_items kept))) z ∙ step_end N B c place (reverse (map vec_items kept)) ∙ ap spelled same)
