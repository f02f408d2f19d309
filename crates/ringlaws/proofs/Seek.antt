-- The newest place of a record, and the latest unit that a list has for it. Assumes nothing.
use Rattle.std.proofs.Common.{◌≡◌, ℕ, zero, suc, ◌+◌, ◌-◌, ◌<◌, ◌≤◌, Bool, true, false, cond, eqb, ◌⊎◌, List, [], ◌∷◌, ◌++◌, length, get_or, Some, None, Option, unwrap_or, sym, refl, ap, ◌∙◌, subst, inl, inr, arith}
use Rattle.std.specs.Option.{option_map}
use Rattle.std.proofs.lemmas.Bool.{cond-true, cond-false}
use Rattle.ringlaws.specs.Layout.{Contents, place_at, after, before, used_between, units_from}
use Rattle.ringlaws.specs.TxnInfo.{Transaction, numbers_of, record_units, taken, count_in, numbers_in, good_count}
use Rattle.ringlaws.specs.Spells.{written, AllFair}
use Rattle.ringlaws.specs.Sound.{info_before, stepped}
use Rattle.ringlaws.specs.Newest.{setting_of, or_else, latest, lay, laid, index_of, seeking_back}
use Rattle.ringlaws.specs.Laws.{NewestHoldsTheLatest, NewestIsAPlace, LaidIsTheLatest, LaidOneMore, LaidAgainIsTheSame}
use Rattle.ringlaws.proofs.Places.{before_after, before_below, tail_is, used_below}
use Rattle.ringlaws.proofs.Infos.{good_count_lem}
use Rattle.ringlaws.proofs.Units.{fair_front, last_of}
use Rattle.ringlaws.proofs.Back.{last, something_written, nothing_written}

or_none : {X : Type 0} (o : Option X) → or_else o None ≡ o
or_none None = refl
or_none (Some x) = refl

or_assoc : {X : Type 0} (a b d : Option X) → or_else (or_else a b) d ≡ or_else a (or_else b d)
or_assoc None b d = refl
or_assoc (Some x) b d = refl

mapped_or : {X Y : Type 0} (f : X → Y) (a b : Option X) → option_map f (or_else a b) ≡ or_else (option_map f a) (option_map f b)
mapped_or f None b = refl
mapped_or f (Some x) b = refl

mapped_mapped : {X Y Z : Type 0} (f : Y → Z) (g : X → Y) (a : Option X) → option_map f (option_map g a) ≡ option_map (λ x. f (g x)) a
mapped_mapped f g None = refl
mapped_mapped f g (Some x) = refl

-- the last transaction comes first
pub latest_push : (ts : List Transaction) (t : Transaction) (r : ℕ) → latest (ts ++ t ∷ []) r ≡ or_else (setting_of t r) (latest ts r)
unfolding latest
latest_push [] t r = sym (or_none (setting_of t r))
latest_push (s ∷ ts) t r = ap (λ x. or_else x (setting_of s r)) (latest_push ts t r) ∙ or_assoc (setting_of t r) (latest ts r) (setting_of s r)

-- where a number stands, its unit stands
index_setting : (f : ℕ → List ℕ) (t : Transaction) (r : ℕ) → ((i : ℕ) → i < length t → f i ≡ get_or (record_units t) i []) → option_map f (index_of r (numbers_of t)) ≡ setting_of t r
unfolding index_of setting_of
index_setting f [] r h = refl
index_setting f (s ∷ t) r h =
    go (eqb r s.number) (index_of r (numbers_of t)) (index_setting (λ i. f (suc i)) t r (λ i lt. h (suc i) (omega arith)))
  where
    go : (b : Bool) (o : Option ℕ) → option_map (λ i. f (suc i)) o ≡ setting_of t r
        → option_map f (cond b (Some 0) (option_map suc o)) ≡ cond b (Some s.unit) (setting_of t r)
    go true o e = ap Some (h 0 (omega arith))
    go false None e = e
    go false (Some i) e = e

module _ (N B : ℕ) (c : Contents) (head : ℕ) (inside : head < N) (r : ℕ) where
  -- the place of the k-th record of the last transaction
  record_place : (place left n k : ℕ) → place ≡ after N head left → left < N → n ≤ left → k < n → before N place (n - k) ≡ after N head ((left - n) + k)
  record_place place left n k p l le lt =
      let z : left - (n - k) ≡ (left - n) + k = omega arith in
      ap (λ q. before N q (n - k)) p ∙ before_after N head left (n - k) inside l (omega arith) ∙ ap (after N head) z

  pub seek_latest : (steps place left : ℕ) (older : List Transaction) → left ≤ steps → left < N → place ≡ after N head left → AllFair B older
      → units_from N c head left ≡ written older → option_map (place_at c) (seeking_back N c r steps place left) ≡ latest older r
  unfolding seeking_back units_from latest
  seek_latest steps place zero older s l p fair e = ap (λ x. latest x r) (sym (nothing_written N B c head inside older (sym e)))
  seek_latest zero place (suc left) older s l p fair e = absurd (omega arith)
  seek_latest (suc steps) place (suc left) older s l p fair e =
      go (last_of older) (λ front t q f h. seek_latest steps (after N head (suc left - taken (length t))) (suc left - taken (length t)) front (omega arith) (omega arith) refl f h)
    where
      u : List ℕ
      u = info_before N c place

      IH : Type 0
      IH = (front : List Transaction) (t : Transaction) → taken (length t) ≤ suc left → AllFair B front → units_from N c head (suc left - taken (length t)) ≡ written front
          → option_map (place_at c) (seeking_back N c r steps (after N head (suc left - taken (length t))) (suc left - taken (length t))) ≡ latest front r

      go : (older ≡ []) ⊎ ((front : List Transaction) × (t : Transaction) × (older ≡ front ++ t ∷ [])) → IH
          → option_map (place_at c) (cond (good_count (suc left) u)
          (or_else (option_map (λ k. before N place (taken (count_in u) - k)) (index_of r (numbers_in u))) (seeking_back N c r steps (stepped N c place) (suc left - taken (count_in u)))) None)
          ≡ latest older r
      go (inl n) ih = absurd (something_written N B c head inside (suc left) older (omega arith) n e)
      go (inr (front, t, q)) ih =
          let fs = fair_front B front (t ∷ []) (subst (AllFair B) q fair) in
          let x = last N B c head inside place (suc left) front t l p fs.1.0 (e ∙ ap written q) in
          let count : good_count (suc left) u ≡ true = good_count_lem B (suc left) u x.is_good in
          let n : ℕ = taken (length t) in
          let fits = x.fits in
          let rest : Option ℕ = seeking_back N c r steps (after N head (suc left - n)) (suc left - n) in
          ap (option_map (place_at c)) (cond-true (good_count (suc left) u) _ _ count)
          ∙ ap (λ k. option_map (place_at c) (or_else (option_map (λ i. before N place (taken k - i)) (index_of r (numbers_in u))) (seeking_back N c r steps (stepped N c place) (suc left - taken (count_in u))))) x.count
          ∙ ap (λ ns. option_map (place_at c) (or_else (option_map (λ i. before N place (n - i)) (index_of r ns)) (seeking_back N c r steps (stepped N c place) (suc left - taken (count_in u))))) x.numbers
          ∙ ap (λ k. option_map (place_at c) (or_else (option_map (λ i. before N place (n - i)) (index_of r (numbers_of t))) (seeking_back N c r steps k (suc left - taken (count_in u))))) x.first
          ∙ ap (λ k. option_map (place_at c) (or_else (option_map (λ i. before N place (n - i)) (index_of r (numbers_of t))) (seeking_back N c r steps (after N head (suc left - n)) k))) x.rest
          ∙ mapped_or (place_at c) (option_map (λ i. before N place (n - i)) (index_of r (numbers_of t))) rest
          ∙ ap (λ a. or_else a (option_map (place_at c) rest))
          (mapped_mapped (place_at c) (λ i. before N place (n - i)) (index_of r (numbers_of t))
          ∙ index_setting (λ i. place_at c (before N place (n - i))) t r
          (λ i lt. ap (place_at c) (record_place place (suc left) n i p l fits (omega arith)) ∙ sym (x.units i lt)))
          ∙ ap (λ b. or_else (setting_of t r) b) (ih front t fits fs.0 x.before)
          ∙ sym (ap (λ ts. latest ts r) q ∙ latest_push front t r)

pub newest_holds_the_latest : NewestHoldsTheLatest
newest_holds_the_latest N B c head tail h t ts s r =
    seek_latest N B c head h r (used_between N head tail) tail (used_between N head tail) ts (omega arith) (used_below N head tail t) (sym (tail_is N head tail h t)) s.fair s.places

pub laid_is_the_latest : LaidIsTheLatest
unfolding laid latest
laid_is_the_latest [] homes r = refl
laid_is_the_latest (t ∷ ts) homes r = laid_is_the_latest ts (lay t homes) r ∙ go (latest ts r)
  where
    go : (o : Option (List ℕ)) → unwrap_or o (unwrap_or (setting_of t r) (homes r)) ≡ unwrap_or (or_else o (setting_of t r)) (homes r)
    go None = refl
    go (Some x) = refl

pub laid_one_more : LaidOneMore
unfolding laid
laid_one_more [] t homes = refl
laid_one_more (s ∷ ts) t homes = laid_one_more ts t (lay s homes)

pub laid_again_is_the_same : LaidAgainIsTheSame
laid_again_is_the_same ts homes mixed r m = laid_is_the_latest ts mixed r ∙ go (latest ts r) refl m ∙ sym (laid_is_the_latest ts homes r)
  where
    go : (o : Option (List ℕ)) → latest ts r ≡ o → (mixed r ≡ homes r) ⊎ (mixed r ≡ laid ts homes r) → unwrap_or o (mixed r) ≡ unwrap_or o (homes r)
    go (Some x) q m = refl
    go None q (inl e) = e
    go None q (inr e) = e ∙ laid_is_the_latest ts homes r ∙ ap (λ o. unwrap_or o (homes r)) q

-- every place that seeking gives is a place
module _ (N : ℕ) (c : Contents) (r : ℕ) where
  is_place_lem : (place n : ℕ) → place < N → (o rest : Option ℕ) (p : ℕ) → (rest ≡ Some p → p < N) → or_else (option_map (λ k. before N place (n - k)) o) rest ≡ Some p → p < N
  is_place_lem place n l None rest p f e = f e
  is_place_lem place n l (Some k) rest p f e =
      let b = before_below N place (n - k) l in
      let z : before N place (n - k) ≡ p = cc in
      omega arith

  seek_place : (steps place left p : ℕ) → place < N → seeking_back N c r steps place left ≡ Some p → p < N
  unfolding seeking_back
  seek_place steps place zero p l e = let z : ◌≡◌ {A = ℕ} 0 1 = cc in absurd (omega arith)
  seek_place zero place (suc left) p l e = let z : ◌≡◌ {A = ℕ} 0 1 = cc in absurd (omega arith)
  seek_place (suc steps) place (suc left) p l e =
      go (good_count (suc left) (info_before N c place)) e
      (seek_place steps (stepped N c place) (suc left - taken (count_in (info_before N c place))) p (before_below N place (taken (count_in (info_before N c place))) l))
    where
      u : List ℕ
      u = info_before N c place

      rest : Option ℕ
      rest = seeking_back N c r steps (stepped N c place) (suc left - taken (count_in u))

      go : (b : Bool) → cond b (or_else (option_map (λ k. before N place (taken (count_in u) - k)) (index_of r (numbers_in u))) rest) None ≡ Some p → (rest ≡ Some p → p < N) → p < N
      go true e f = is_place_lem place (taken (count_in u)) l (index_of r (numbers_in u)) rest p f e
      go false e f = let z : ◌≡◌ {A = ℕ} 0 1 = cc in absurd (omega arith)

pub newest_is_a_place : NewestIsAPlace
newest_is_a_place N c head tail r p h t e = seek_place N c r (used_between N head tail) tail (used_between N head tail) p t e

-- One step, as a loop takes it.
module _ (N : ℕ) (c : Contents) (r : ℕ) where
  seek_enough : (s q place left : ℕ) → left ≤ s → left ≤ q → seeking_back N c r s place left ≡ seeking_back N c r q place left
  unfolding seeking_back
  seek_enough s q place zero a b = refl
  seek_enough zero q place (suc left) a b = absurd (omega arith)
  seek_enough (suc s) zero place (suc left) a b = absurd (omega arith)
  seek_enough (suc s) (suc q) place (suc left) a b =
      ap (λ x. cond (good_count (suc left) (info_before N c place))
      (or_else (option_map (λ k. before N place (taken (count_in (info_before N c place)) - k)) (index_of r (numbers_in (info_before N c place)))) x) None)
      (seek_enough s q (stepped N c place) (suc left - taken (count_in (info_before N c place))) (omega arith) (omega arith))

  seek_step : (place left : ℕ) → 0 < left
      → seeking_back N c r left place left
      ≡ cond (good_count left (info_before N c place))
      (or_else (option_map (λ k. before N place (taken (count_in (info_before N c place)) - k)) (index_of r (numbers_in (info_before N c place))))
      (seeking_back N c r (left - taken (count_in (info_before N c place))) (stepped N c place) (left - taken (count_in (info_before N c place))))) None
  unfolding seeking_back
  seek_step place zero lt = absurd (omega arith)
  seek_step place (suc left) lt =
      ap (λ x. cond (good_count (suc left) (info_before N c place))
      (or_else (option_map (λ k. before N place (taken (count_in (info_before N c place)) - k)) (index_of r (numbers_in (info_before N c place)))) x) None)
      (seek_enough left (suc left - taken (count_in (info_before N c place))) (stepped N c place) (suc left - taken (count_in (info_before N c place))) (omega arith) (omega arith))

  pub seek_end : (place : ℕ) → seeking_back N c r 0 place 0 ≡ None
  unfolding seeking_back
  seek_end place = refl

  pub seek_stop : (place left : ℕ) → 0 < left → good_count left (info_before N c place) ≡ false → seeking_back N c r left place left ≡ None
  seek_stop place left lt g = seek_step place left lt ∙ cond-false (good_count left (info_before N c place)) _ _ g

  pub seek_here : (place left k : ℕ) → 0 < left → good_count left (info_before N c place) ≡ true → index_of r (numbers_in (info_before N c place)) ≡ Some k
      → seeking_back N c r left place left ≡ Some (before N place (taken (count_in (info_before N c place)) - k))
  seek_here place left k lt g i =
      seek_step place left lt ∙ cond-true (good_count left (info_before N c place)) _ _ g
      ∙ ap (λ o. or_else (option_map (λ k. before N place (taken (count_in (info_before N c place)) - k)) o)
      (seeking_back N c r (left - taken (count_in (info_before N c place))) (stepped N c place) (left - taken (count_in (info_before N c place))))) i

  pub seek_on : (place left : ℕ) → 0 < left → good_count left (info_before N c place) ≡ true → index_of r (numbers_in (info_before N c place)) ≡ None
      → seeking_back N c r left place left ≡ seeking_back N c r (left - taken (count_in (info_before N c place))) (stepped N c place) (left - taken (count_in (info_before N c place)))
  seek_on place left lt g i =
      seek_step place left lt ∙ cond-true (good_count left (info_before N c place)) _ _ g
      ∙ ap (λ o. or_else (option_map (λ k. before N place (taken (count_in (info_before N c place)) - k)) o)
      (seeking_back N c r (left - taken (count_in (info_before N c place))) (stepped N c place) (left - taken (count_in (info_before N c place))))) i
