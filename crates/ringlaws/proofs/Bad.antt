-- The place at which stepping back stops, and how one step goes on. Assumes nothing.
use Rattle.std.proofs.Common.{◌≡◌, ℕ, zero, suc, ◌+◌, ◌-◌, ◌<◌, ◌≤◌, Bool, true, false, cond, List, [], ◌∷◌, ◌++◌, length, sym, refl, ap, ◌∙◌, arith, length-append}
use Rattle.std.proofs.lemmas.Bool.{cond-true, cond-false}
use Rattle.ringlaws.specs.Layout.{Contents, place_at, after, before, used_between, units_from}
use Rattle.ringlaws.specs.TxnInfo.{Transaction, taken, count_in, good_info}
use Rattle.ringlaws.specs.Spells.{units_of, written, AllFair, SpellsBetween}
use Rattle.ringlaws.specs.Sound.{Verdict, spelled, bad_at, info_before, stepped, transaction_before, stepping_back, step_back}
use Rattle.ringlaws.specs.Laws.{FirstBad, ABadPlaceIsTheFirst}
use Rattle.ringlaws.proofs.Places.{after_after, after_below, before_below, tail_is, used_below}
use Rattle.ringlaws.proofs.Units.{units_append, units_long}
use Rattle.ringlaws.proofs.Back.{Found, found, sound_exactly_if_spelled}

module _ (N B : ℕ) (c : Contents) (head tail : ℕ) (inside : head < N) (within : tail < N) where
  -- the places behind `left` of them hold these transactions
  record Behind (left : ℕ) (newer : List Transaction) : Type 0 where
    pub all : left + length (written newer) ≡ used_between N head tail
    pub fair : AllFair B newer
    pub units : units_from N c (after N head left) (length (written newer)) ≡ written newer

  behind_more : (place left : ℕ) (newer : List Transaction) → Found N B c head inside place left → Behind left newer
      → Behind (left - taken (count_in (info_before N c place))) (transaction_before N c place ∷ newer)
  unfolding written
  behind_more place left newer f b =
      let t : Transaction = transaction_before N c place in
      let n : ℕ = taken (count_in (info_before N c place)) in
      let fits = f.fits in
      let all = b.all in
      let u = used_below N head tail within in
      let many : length (units_of t) ≡ n = sym (ap length f.units) ∙ units_long N c (after N head (left - n)) n in
      let more : length (units_of t ++ written newer) ≡ n + length (written newer) = length-append (units_of t) (written newer) ∙ ap (λ x. x + length (written newer)) many in
      let on : (left - n) + n ≡ left = omega arith in
      record {
        all = omega arith;
        fair = (f.fair, b.fair);
        units = ap (units_from N c (after N head (left - n))) more
            ∙ units_append N c (after N head (left - n)) n (length (written newer)) (after_below N head (left - n) inside) (omega arith)
            ∙ ap (λ x. x ++ units_from N c (after N (after N head (left - n)) n) (length (written newer))) f.units
            ∙ ap (λ x. units_of t ++ units_from N c x (length (written newer))) (after_after N head (left - n) n inside (omega arith) ∙ ap (after N head) on)
            ∙ ap (λ x. units_of t ++ x) b.units;
      }

  no_list : (p : ℕ) → step_back N B c head tail ≡ bad_at p → (ts : List Transaction) → SpellsBetween N B c head tail ts → ⊥
  no_list p e ts s =
      let g = (sound_exactly_if_spelled N B c head tail inside within ts).1 s in
      let z : ◌≡◌ {A = ℕ} 0 1 = cc in
      omega arith

  one_bad : (place left p : ℕ) (newer : List Transaction) → ((ts : List Transaction) → SpellsBetween N B c head tail ts → ⊥) → 0 < left → left < N → place ≡ after N head left → Behind left newer → (rest : Verdict)
      → (b : Bool) → good_info B left (info_before N c place) ≡ b → cond b rest (bad_at (before N place 1)) ≡ bad_at p
      → (stepped N c place ≡ after N head (left - taken (count_in (info_before N c place))) → Behind (left - taken (count_in (info_before N c place))) (transaction_before N c place ∷ newer)
      → rest ≡ bad_at p → FirstBad N B c head tail p)
      → FirstBad N B c head tail p
  one_bad place left p newer none lt l q b rest true g e ih = let f = found N B c head inside place left l q g in ih f.first (behind_more place left newer f b) e
  one_bad place left p newer none lt l q b rest false g e ih =
      let same : before N place 1 ≡ p = cc in
      record {
        left = left;
        newer = newer;
        some = lt;
        all = b.all;
        fair = b.fair;
        behind = b.units;
        place = sym same ∙ ap (λ x. before N x 1) q;
        bad = ap (λ x. good_info B left (place_at c x)) (sym same) ∙ g;
        none = none;
      }

  first_bad : (steps place left p : ℕ) (newer : List Transaction) → ((ts : List Transaction) → SpellsBetween N B c head tail ts → ⊥) → left ≤ steps → left < N → place ≡ after N head left → Behind left newer
      → stepping_back N B c steps place left newer ≡ bad_at p → FirstBad N B c head tail p
  unfolding stepping_back
  first_bad steps place zero p newer none s l q b e = let z : ◌≡◌ {A = ℕ} 0 1 = cc in absurd (omega arith)
  first_bad zero place (suc left) p newer none s l q b e = absurd (omega arith)
  first_bad (suc steps) place (suc left) p newer none s l q b e =
      one_bad place (suc left) p newer none (omega arith) l q b _ (good_info B (suc left) (info_before N c place)) refl e
      (λ f h r. first_bad steps (stepped N c place) (suc left - taken (count_in (info_before N c place))) p (transaction_before N c place ∷ newer) none (omega arith) (omega arith) f h r)

pub a_bad_place_is_the_first : ABadPlaceIsTheFirst
unfolding written units_from
a_bad_place_is_the_first N B c head tail p h t e =
    let n : ℕ = used_between N head tail in
    let l = used_below N head tail t in
    let b = first_bad N B c head tail h t n tail n p [] (no_list N B c head tail h t p e) (omega arith) l (sym (tail_is N head tail h t)) (record { all = omega arith; fair = tt; units = refl }) e in
    let q = before_below N (after N head b.left) 1 (after_below N head b.left h) in
    let same = b.place in
    (omega arith, b)

-- One step, as a loop takes it.
module _ (N B : ℕ) (c : Contents) where
  -- more steps than places make no difference
  enough : (s r place left : ℕ) (newer : List Transaction) → left ≤ s → left ≤ r → stepping_back N B c s place left newer ≡ stepping_back N B c r place left newer
  unfolding stepping_back
  enough s r place zero newer p q = refl
  enough zero r place (suc left) newer p q = absurd (omega arith)
  enough (suc s) zero place (suc left) newer p q = absurd (omega arith)
  enough (suc s) (suc r) place (suc left) newer p q =
      ap (λ x. cond (good_info B (suc left) (info_before N c place)) x (bad_at (before N place 1)))
      (enough s r (stepped N c place) (suc left - taken (count_in (info_before N c place))) (transaction_before N c place ∷ newer) (omega arith) (omega arith))

  pub step_good : (place left : ℕ) (newer : List Transaction) → 0 < left → good_info B left (info_before N c place) ≡ true
      → stepping_back N B c left place left newer
      ≡ stepping_back N B c (left - taken (count_in (info_before N c place))) (stepped N c place) (left - taken (count_in (info_before N c place))) (transaction_before N c place ∷ newer)
  unfolding stepping_back
  step_good place zero newer lt g = absurd (omega arith)
  step_good place (suc left) newer lt g =
      cond-true (good_info B (suc left) (info_before N c place)) _ _ g
      ∙ enough left (suc left - taken (count_in (info_before N c place))) (stepped N c place) (suc left - taken (count_in (info_before N c place))) (transaction_before N c place ∷ newer) (omega arith) (omega arith)

  pub step_bad : (place left : ℕ) (newer : List Transaction) → 0 < left → good_info B left (info_before N c place) ≡ false
      → stepping_back N B c left place left newer ≡ bad_at (before N place 1)
  unfolding stepping_back
  step_bad place zero newer lt g = absurd (omega arith)
  step_bad place (suc left) newer lt g = cond-false (good_info B (suc left) (info_before N c place)) _ _ g

  pub step_end : (place : ℕ) (newer : List Transaction) → stepping_back N B c 0 place 0 newer ≡ spelled newer
  unfolding stepping_back
  step_end place newer = refl
