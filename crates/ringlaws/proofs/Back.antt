-- Stepping back over a ring gives a list exactly if that list spells it. Assumes nothing.
use Rattle.std.proofs.Common.{◌≡◌, ℕ, zero, suc, ◌+◌, ◌-◌, ◌<◌, ◌≤◌, Bool, true, false, cond, ◌⊎◌, List, [], ◌∷◌, ◌++◌, length, get_or, sym, refl, ap, ◌∙◌, subst, inl, inr, arith, length-append}
use lib.ListN.{length-map}
use Rattle.std.proofs.lemmas.Bool.{cond-true}
use Rattle.std.proofs.lemmas.List.{append_assoc, append-nil, get_or_append_left, get_or_at}
use Rattle.ringlaws.specs.Layout.{Contents, place_at, after, before, used_between, units_from, records_of}
use Rattle.ringlaws.specs.TxnInfo.{Transaction, numbers_of, record_units, info_unit, count_limit, taken, count_in, numbers_in, distinct, all_below, good_info}
use Rattle.ringlaws.specs.Spells.{units_of, written, Fair, AllFair, SpellsBetween}
use Rattle.ringlaws.specs.Sound.{Verdict, spelled, bad_at, info_before, settings_at, stepped, transaction_before, stepping_back, step_back}
use Rattle.ringlaws.specs.Laws.{SoundExactlyIfSpelled, OnlyOneList, EveryWordComesBack, TheListIsTheOne}
use Rattle.ringlaws.proofs.Places.{before_after, after_after, tail_is, used_below}
use Rattle.ringlaws.proofs.Infos.{good, good_is_info, numbers_long, info_good, info_count, info_numbers}
use Rattle.ringlaws.proofs.Units.{unit_long, unit_word, units_long, units_at, units_append, units_push, split_same, units_of_long, written_push, fair_append, fair_front, last_of, settings_numbers, settings_long, settings_whole, settings_units, settings_are}

module _ (N B : ℕ) (c : Contents) (head : ℕ) (inside : head < N) where
  -- the transaction before a good TxnInfo is fair, and its units lie where it begins
  pub record Found (place left : ℕ) : Type 0 where
    pub first : stepped N c place ≡ after N head (left - taken (count_in (info_before N c place)))
    pub fits : taken (count_in (info_before N c place)) ≤ left
    pub fair : Fair B (transaction_before N c place)
    pub units : units_from N c (after N head (left - taken (count_in (info_before N c place)))) (taken (count_in (info_before N c place))) ≡ units_of (transaction_before N c place)

  pub found : (place left : ℕ) → left < N → place ≡ after N head left → good_info B left (info_before N c place) ≡ true → Found place left
  found place left l p g =
      let u : List ℕ = info_before N c place in
      let h = good B left u g in
      let long : length u ≡ 32 = unit_long c (before N place 1 + 1) in
      let count : ℕ = count_in u in
      let ns : List ℕ = numbers_in u in
      let n : length ns ≡ count = numbers_long u long h.most in
      let least = h.least in
      let most = h.most in
      let fits = h.fits in
      let f : ℕ = after N head (left - taken count) in
      let step : stepped N c place ≡ f = ap (λ q. before N q (taken count)) p ∙ before_after N head left (taken count) inside l fits in
      let t : Transaction = transaction_before N c place in
      let numbers : numbers_of t ≡ ns = settings_numbers N c (stepped N c place) 0 ns in
      let many : length t ≡ length ns = settings_long N c (stepped N c place) 0 ns in
      let records : record_units t ≡ units_from N c f count =
      settings_units N c (stepped N c place) ns ∙ ap (λ q. units_from N c q (length ns)) step ∙ ap (units_from N c f) n in
      let info : info_unit (numbers_of t) ≡ u = ap info_unit numbers ∙ good_is_info B left u long h in
      let one : (left - taken count) + count ≡ left - 1 = omega arith in
      let where-info : after N f count ≡ before N place 1 =
      after_after N head (left - taken count) count inside (omega arith) ∙ ap (after N head) one ∙ sym (ap (λ q. before N q 1) p ∙ before_after N head left 1 inside l (omega arith)) in
      record {
        first = step;
        fits = fits;
        fair = record {
          least = omega arith;
          most = omega arith;
          below = ap (λ x. all_below (records_of B) x) numbers ∙ h.below;
          apart = ap distinct numbers ∙ h.apart;
          whole = settings_whole N c (stepped N c place) 0 ns;
        };
        units = units_push N c f count ∙ ap (λ x. units_from N c f count ++ place_at c x ∷ []) where-info
            ∙ ap (λ x. x ++ u ∷ []) (sym records) ∙ ap (λ x. record_units t ++ x ∷ []) (sym info);
      }

  -- what the first places spell, and the list that they begin
  abbrev pub Begins : ℕ → List Transaction → List Transaction → Type 0
  Begins left newer ts = (older : List Transaction) × (ts ≡ older ++ newer) × AllFair B older × (units_from N c head left ≡ written older)

  begins_more : (place left : ℕ) (newer ts : List Transaction) → left < N → Found place left
      → Begins (left - taken (count_in (info_before N c place))) (transaction_before N c place ∷ newer) ts → Begins left newer ts
  begins_more place left newer ts l f (older, e, fair, places) =
      let t : Transaction = transaction_before N c place in
      let n : ℕ = taken (count_in (info_before N c place)) in
      let fits = f.fits in
      let w : left ≡ (left - n) + n = omega arith in (
        older ++ t ∷ [],
        e ∙ sym (append_assoc older (t ∷ []) newer),
        fair_append B older (t ∷ []) fair (f.fair, tt),
        ap (units_from N c head) w ∙ units_append N c head (left - n) n inside (omega arith)
            ∙ ap (λ x. x ++ units_from N c (after N head (left - n)) n) places ∙ ap (λ x. written older ++ x) f.units ∙ sym (written_push older t),
      )

  one_back : (place left : ℕ) (newer ts : List Transaction) → left < N → place ≡ after N head left → (rest : Verdict)
      → (b : Bool) → good_info B left (info_before N c place) ≡ b → cond b rest (bad_at (before N place 1)) ≡ spelled ts
      → (stepped N c place ≡ after N head (left - taken (count_in (info_before N c place))) → rest ≡ spelled ts
      → Begins (left - taken (count_in (info_before N c place))) (transaction_before N c place ∷ newer) ts)
      → Begins left newer ts
  one_back place left newer ts l p rest true g e ih = let f = found place left l p g in begins_more place left newer ts l f (ih f.first e)
  one_back place left newer ts l p rest false g e ih = let z : ◌≡◌ {A = ℕ} 0 1 = cc in absurd (omega arith)

  -- a list that stepping back gives spells the places
  pub spells_back : (steps place left : ℕ) (newer ts : List Transaction) → left < N → place ≡ after N head left
      → stepping_back N B c steps place left newer ≡ spelled ts → Begins left newer ts
  unfolding stepping_back written units_from
  spells_back steps place zero newer ts l p e = let z : ts ≡ newer = cc in ([], z, tt, refl)
  spells_back zero place (suc left) newer ts l p e = let z : ◌≡◌ {A = ℕ} 0 1 = cc in absurd (omega arith)
  spells_back (suc steps) place (suc left) newer ts l p e =
      one_back place (suc left) newer ts l p _ (good_info B (suc left) (info_before N c place)) refl e
      (λ q f. spells_back steps (stepped N c place) (suc left - taken (count_in (info_before N c place))) (transaction_before N c place ∷ newer) ts (omega arith) q f)

  -- the last of the transactions that the places hold
  pub record Last (place left : ℕ) (front : List Transaction) (t : Transaction) : Type 0 where
    pub is_good : good_info B left (info_before N c place) ≡ true
    pub first : stepped N c place ≡ after N head (left - taken (length t))
    pub fits : taken (length t) ≤ left
    pub rest : left - taken (count_in (info_before N c place)) ≡ left - taken (length t)
    pub numbers : numbers_in (info_before N c place) ≡ numbers_of t
    pub count : count_in (info_before N c place) ≡ length t
    pub here : transaction_before N c place ≡ t
    pub units : (i : ℕ) → i < length t → get_or (record_units t) i [] ≡ place_at c (after N head ((left - taken (length t)) + i))
    pub before : units_from N c head (left - taken (length t)) ≡ written front

  pub last : (place left : ℕ) (front : List Transaction) (t : Transaction) → left < N → place ≡ after N head left → Fair B t
      → units_from N c head left ≡ written (front ++ t ∷ []) → Last place left front t
  last place left front t l p fair e =
      let ns : List ℕ = numbers_of t in
      let many : length ns ≡ length t = length-map t (λ s. s.number) in
      let recs : length (record_units t) ≡ length t = length-map t (λ s. s.unit) in
      let n : ℕ = taken (length t) in
      let e2 : units_from N c head left ≡ written front ++ units_of t = e ∙ written_push front t in
      let sum : left ≡ length (written front) + n =
      sym (units_long N c head left) ∙ ap length e2 ∙ length-append (written front) (units_of t) ∙ ap (λ x. length (written front) + x) (units_of_long t) in
      let fits : n ≤ left = omega arith in
      let w : (left - n) + n ≡ left = omega arith in
      let f : ℕ = after N head (left - n) in
      let cut : units_from N c head (left - n) ++ units_from N c f n ≡ written front ++ units_of t =
      sym (units_append N c head (left - n) n inside (omega arith)) ∙ ap (units_from N c head) w ∙ e2 in
      let halves = split_same (units_from N c head (left - n)) (units_from N c f n) (written front) (units_of t) (units_long N c head (left - n) ∙ (omega arith)) cut in
      let one : (left - n) + length t ≡ left - 1 = omega arith in
      let where-info : after N f (length t) ≡ before N place 1 =
      after_after N head (left - n) (length t) inside (omega arith) ∙ ap (after N head) one ∙ sym (ap (λ q. before N q 1) p ∙ before_after N head left 1 inside l (omega arith)) in
      let u : List ℕ = info_before N c place in
      let info : u ≡ info_unit ns =
      sym (units_at N c f n (length t) (omega arith) ∙ ap (place_at c) where-info)
      ∙ ap (λ x. get_or x (length t) []) halves.1 ∙ get_or_at (record_units t) (info_unit ns) [] [] (length t) recs in
      let le : length ns ≤ count_limit = let m = fair.most in omega arith in
      let count : count_in u ≡ length t = ap count_in info ∙ info_count ns le ∙ many in
      let numbers : numbers_in u ≡ ns = ap numbers_in info ∙ info_numbers ns le in
      let first : stepped N c place ≡ f = ap (λ x. before N place (taken x)) count ∙ ap (λ q. before N q n) p ∙ before_after N head left n inside l fits in
      let units : (i : ℕ) → i < length t → get_or (record_units t) i [] ≡ place_at c (after N f i) =
      (λ i lt. sym (get_or_append_left (record_units t) (info_unit ns ∷ []) [] i (omega arith)) ∙ ap (λ x. get_or x i []) (sym halves.1) ∙ units_at N c f n i (omega arith)) in
      record {
        is_good = ap (good_info B left) info ∙ info_good ns le B left (let m = fair.least in omega arith) (omega arith) fair.below fair.apart;
        first = first;
        fits = fits;
        rest = ap (λ x. left - taken x) count;
        numbers = numbers;
        count = count;
        here = ap (λ q. settings_at N c q 0 (numbers_in u)) first ∙ ap (settings_at N c f 0) numbers
            ∙ settings_are N c f 0 t (λ i lt. let z : i ≡ 0 + i = omega arith in units i lt ∙ ap (λ x. place_at c (after N f x)) z);
        units = λ i lt. units i lt ∙ ap (place_at c) (after_after N head (left - n) i inside (omega arith));
        before = halves.0;
      }

  pub nothing_written : (ts : List Transaction) → written ts ≡ [] → ts ≡ []
  unfolding written
  nothing_written [] e = refl
  nothing_written (t ∷ ts) e =
      let x = units_of_long t in
      let y = length-append (units_of t) (written ts) in
      let z : length (units_of t ++ written ts) ≡ 0 = ap length e in
      absurd (omega arith)

  pub something_written : (left : ℕ) (ts : List Transaction) → 0 < left → ts ≡ [] → units_from N c head left ≡ written ts → ⊥
  unfolding written
  something_written left ts lt e q =
      let x = units_long N c head left in
      let z : length (units_from N c head left) ≡ 0 = ap length (q ∙ ap written e) in
      omega arith

  -- the list that spells the places is the one that stepping back gives
  pub back_spells : (steps place left : ℕ) (newer older : List Transaction) → left ≤ steps → left < N → place ≡ after N head left → AllFair B older
      → units_from N c head left ≡ written older → stepping_back N B c steps place left newer ≡ spelled (older ++ newer)
  unfolding stepping_back units_from
  back_spells steps place zero newer older s l p fair e = ap (λ x. spelled (x ++ newer)) (sym (nothing_written older (sym e)))
  back_spells zero place (suc left) newer older s l p fair e = absurd (omega arith)
  back_spells (suc steps) place (suc left) newer older s l p fair e =
      go (last_of older) (λ front t q f h. back_spells steps (after N head (suc left - taken (length t))) (suc left - taken (length t)) (t ∷ newer) front (omega arith) (omega arith) refl f h)
    where
      u : List ℕ
      u = info_before N c place

      IH : Type 0
      IH = (front : List Transaction) (t : Transaction) → taken (length t) ≤ suc left → AllFair B front → units_from N c head (suc left - taken (length t)) ≡ written front
          → stepping_back N B c steps (after N head (suc left - taken (length t))) (suc left - taken (length t)) (t ∷ newer) ≡ spelled (front ++ t ∷ newer)

      go : (older ≡ []) ⊎ ((front : List Transaction) × (t : Transaction) × (older ≡ front ++ t ∷ [])) → IH
          → cond (good_info B (suc left) u) (stepping_back N B c steps (stepped N c place) (suc left - taken (count_in u)) (transaction_before N c place ∷ newer)) (bad_at (before N place 1)) ≡ spelled (older ++ newer)
      go (inl n) ih = absurd (something_written (suc left) older (omega arith) n e)
      go (inr (front, t, q)) ih =
          let fs = fair_front B front (t ∷ []) (subst (AllFair B) q fair) in
          let x = last place (suc left) front t l p fs.1.0 (e ∙ ap written q) in
          cond-true (good_info B (suc left) u) _ _ x.is_good
          ∙ ap (λ k. stepping_back N B c steps k (suc left - taken (count_in u)) (transaction_before N c place ∷ newer)) x.first
          ∙ ap (λ k. stepping_back N B c steps (after N head (suc left - taken (length t))) k (transaction_before N c place ∷ newer)) x.rest
          ∙ ap (λ k. stepping_back N B c steps (after N head (suc left - taken (length t))) (suc left - taken (length t)) (k ∷ newer)) x.here
          ∙ ih front t x.fits fs.0 x.before
          ∙ ap spelled (sym (ap (λ z. z ++ newer) q ∙ append_assoc front (t ∷ []) newer))

pub sound_exactly_if_spelled : SoundExactlyIfSpelled
sound_exactly_if_spelled N B c head tail h t ts = (there, back)
  where
    n : ℕ
    n = used_between N head tail

    l : n < N
    l = used_below N head tail t

    p : tail ≡ after N head n
    p = sym (tail_is N head tail h t)

    there : step_back N B c head tail ≡ spelled ts → SpellsBetween N B c head tail ts
    there e =
        let (older, q, fair, places) = spells_back N B c head h n tail n [] ts l p e in
        let same : older ≡ ts = sym (append-nil older) ∙ sym q in
        record { fair = subst (AllFair B) same fair; places = places ∙ ap written same }

    back : SpellsBetween N B c head tail ts → step_back N B c head tail ≡ spelled ts
    back s = back_spells N B c head h n tail n [] ts (omega arith) l p s.fair s.places ∙ ap spelled (append-nil ts)

pub only_one_list : OnlyOneList
only_one_list N B c head tail h t ts us a b =
    let x = (sound_exactly_if_spelled N B c head tail h t ts).1 a in
    let y = (sound_exactly_if_spelled N B c head tail h t us).1 b in
    cc

pub every_word_comes_back : EveryWordComesBack
every_word_comes_back N B c head tail ts s =
    let n : ℕ = used_between N head tail in (
      sym (ap length s.places) ∙ units_long N c head n,
      λ k j lt less. sym (unit_word c (after N head k + 1) j less) ∙ ap (λ u. get_or u j 0) (sym (units_at N c head n k lt) ∙ ap (λ us. get_or us k []) s.places),
    )

pub the_list_is_the_one : TheListIsTheOne
the_list_is_the_one N B c head tail h t ts e =
    let s = (sound_exactly_if_spelled N B c head tail h t ts).0 e in
    record {
      steps = e;
      spells = s;
      only = λ us r. only_one_list N B c head tail h t us ts r s;
      words = (every_word_comes_back N B c head tail ts s).1;
    }
