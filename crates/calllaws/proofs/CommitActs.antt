-- The stores and flushes of a commit are those of the words and lines of its places. Assumes nothing.
use Rattle.std.proofs.Common.{◌≡◌, ℕ, zero, suc, ◌+◌, ◌-◌, ◌*◌, ◌/◌, ◌%◌, ◌<◌, ◌≤◌, Bool, true, false, cond, ◌||◌, eqb, List, [], length, get_or, sym, refl, ap, ◌∙◌, arith}
use Rattle.std.proofs.lemmas.Bool.Decides.{nat_tests}
use Rattle.std.proofs.lemmas.Bool.{eqb-true, both_ways}
use Rattle.device.specs.Words.{NvmAct}
use Rattle.crash.specs.Runs.{each_of}
use Rattle.crash.specs.Keeping.{nvm_keeps, kept}
use Rattle.crash.specs.Rows.{storing, flushing, inside, nvm_touches, nvm_flushes, stores_word, flushes_line, FlushWithin, Stores, Flushes}
use Rattle.crash.proofs.Follow.{kept_append}
use Rattle.crash.proofs.Runs.{each_each}
use Rattle.crash.proofs.Touching.{some_append}
use Rattle.crash.proofs.Rows.{stores_join, storing_word, storing_kept, storing_row, flushing_line, flushing_row}
use Rattle.ringlaws.specs.Layout.{after}
use Rattle.ringlaws.proofs.Places.{after_below}
use Rattle.calls.specs.Acts.{flushing_places}
use Rattle.calllaws.proofs.CommitPlaces.{in_places, word_for, is_there, none_placed, there_ahead, one_more_place, place_is_new}

-- the words and the lines of one place
place_words : (q w : ℕ) → inside (32 * (q + 1)) (32 * (q + 1) + 32) w ≡ eqb (w / 32) (q + 1)
place_words q w = grind (arith, nat_tests)

place_lines : (q w : ℕ) → inside (4 * (q + 1)) (4 * (q + 1) + 4) (w / 8) ≡ eqb (w / 32) (q + 1)
place_lines q w = grind (arith, nat_tests)

swapped : (h r : Bool) → r || h ≡ cond h true r
swapped true true = refl
swapped true false = refl
swapped false true = refl
swapped false false = refl

module _ (N t : ℕ) (lt : t < N) where
  -- flushes of n places
  pub places_flushed : (n : ℕ) → n ≤ N → (w : ℕ) → flushes_line (w / 8) (flushing_places N t n) ≡ in_places N t n w
  unfolding each_of
  places_flushed zero le w = sym (none_placed N t w)
  places_flushed (suc n) le w =
      some_append (λ a. nvm_flushes a (w / 8)) (flushing_places N t n) (flushing (4 * (after N t n + 1)) 4)
      ∙ ap (λ b. flushes_line (w / 8) (flushing_places N t n) || b) (flushing_line (4 * (after N t n + 1)) 4 (w / 8) ∙ place_lines (after N t n) w)
      ∙ ap (λ b. b || is_there N t lt n w) (places_flushed n (omega arith) w)
      ∙ swapped (is_there N t lt n w) (in_places N t n w)
      ∙ sym (one_more_place N t lt n w (omega arith))

  pub flushes_within : (n : ℕ) → Flushes (N + 1) (flushing_places N t n)
  flushes_within n =
      each_each (FlushWithin (N + 1)) (λ k. flushing (4 * (after N t k + 1)) 4) n
      (λ k l. let q : after N t k < N = after_below N t k lt in flushing_row (4 * (after N t k + 1)) (N + 1) 4 (omega arith))

  module _ (us : List (List ℕ)) (whole : (k : ℕ) → k < length us → length (get_or us k []) ≡ 32) where
    -- the stores of the first n units
    abbrev pub placing_first : ℕ → List NvmAct
    placing_first n = each_of (λ k. storing (32 * (after N t k + 1)) (get_or us k [])) n

    unit_stored : (n w : ℕ) → n < length us → stores_word w (storing (32 * (after N t n + 1)) (get_or us n [])) ≡ is_there N t lt n w
    unit_stored n w k =
        storing_word (32 * (after N t n + 1)) (get_or us n []) w
        ∙ ap (λ z. inside (32 * (after N t n + 1)) (32 * (after N t n + 1) + z) w) (whole n k)
        ∙ place_words (after N t n) w

    pub places_stored : (n : ℕ) → n ≤ N → n ≤ length us → (w : ℕ) → stores_word w (placing_first n) ≡ in_places N t n w
    unfolding each_of
    places_stored zero le few w = sym (none_placed N t w)
    places_stored (suc n) le few w =
        some_append (λ a. nvm_touches a w) (placing_first n) (storing (32 * (after N t n + 1)) (get_or us n []))
        ∙ ap (λ b. stores_word w (placing_first n) || b) (unit_stored n w (omega arith))
        ∙ ap (λ b. b || is_there N t lt n w) (places_stored n (omega arith) (omega arith) w)
        ∙ swapped (is_there N t lt n w) (in_places N t n w)
        ∙ sym (one_more_place N t lt n w (omega arith))

    pub stores_within : (n : ℕ) → n ≤ N → n ≤ length us → Stores (N + 1) (placing_first n)
    unfolding each_of
    stores_within zero le few = (tt, tt)
    stores_within (suc n) le few =
        let q : after N t n < N = after_below N t n lt in
        let e : length (get_or us n []) ≡ 32 = whole n (omega arith) in
        stores_join (N + 1) (placing_first n) (storing (32 * (after N t n + 1)) (get_or us n [])) (stores_within n (omega arith) (omega arith))
        (storing_row (32 * (after N t n + 1)) (get_or us n []) (N + 1) (omega arith))
        (λ w i. unit_stored n w (omega arith) ∙ apart w (is_there N t lt n w) refl (sym (places_stored n (omega arith) (omega arith) w) ∙ i))
      where
        -- a word of the places so far is none of the next place
        apart : (w : ℕ) (b : Bool) → is_there N t lt n w ≡ b → in_places N t n w ≡ true → b ≡ false
        apart w false h i = refl
        apart w true h i = absurd (both_ways (in_places N t n w) (place_is_new N t lt n w (omega arith) h) i)

    pub places_kept : (n : ℕ) → n ≤ N → n ≤ length us → (w p : ℕ) → kept nvm_keeps (placing_first n) w p ≡ cond (in_places N t n w) (word_for N t us w) p
    unfolding each_of
    places_kept zero le few w p = sym (ap (λ b. cond b (word_for N t us w) p) (none_placed N t w))
    places_kept (suc n) le few w p =
        kept_append nvm_keeps (placing_first n) (storing (32 * (after N t n + 1)) (get_or us n [])) w p
        ∙ storing_kept (32 * (after N t n + 1)) (get_or us n []) w (kept nvm_keeps (placing_first n) w p)
        ∙ ap (λ b. cond b (get_or (get_or us n []) (w - 32 * (after N t n + 1)) 0) (kept nvm_keeps (placing_first n) w p)) here
        ∙ ap (λ r. cond (is_there N t lt n w) (get_or (get_or us n []) (w - 32 * (after N t n + 1)) 0) r) (places_kept n (omega arith) (omega arith) w p)
        ∙ joined (is_there N t lt n w) (in_places N t n w) same
        ∙ ap (λ b. cond b (word_for N t us w) p) (sym (one_more_place N t lt n w (omega arith)))
      where
        here : inside (32 * (after N t n + 1)) (32 * (after N t n + 1) + length (get_or us n [])) w ≡ is_there N t lt n w
        here = ap (λ z. inside (32 * (after N t n + 1)) (32 * (after N t n + 1) + z) w) (whole n (omega arith)) ∙ place_words (after N t n) w

        same : is_there N t lt n w ≡ true → get_or (get_or us n []) (w - 32 * (after N t n + 1)) 0 ≡ word_for N t us w
        same e =
            let q : w / 32 ≡ after N t n + 1 = eqb-true (w / 32) (after N t n + 1) e in
            let d : w - 32 * (after N t n + 1) ≡ w % 32 = omega arith in
            ap (λ z. get_or (get_or us n []) z 0) d ∙ ap (λ z. get_or (get_or us z []) (w % 32) 0) (sym (there_ahead N t lt n w (omega arith) q))

        joined : (h r : Bool) {x : ℕ} → (h ≡ true → x ≡ word_for N t us w) → cond h x (cond r (word_for N t us w) p) ≡ cond (cond h true r) (word_for N t us w) p
        joined true r f = f refl
        joined false r f = refl
