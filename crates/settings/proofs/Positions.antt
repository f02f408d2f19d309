-- Where a record's setting stands, and what setting it does there. Assumes nothing.
use Rattle.std.proofs.Common.{◌≡◌, ℕ, suc, ◌+◌, ◌*◌, ◌/◌, ◌<◌, ◌≤◌, Bool, true, false, cond, ◌||◌, eqb, ltb, List, [], ◌∷◌, ◌++◌, length, set, Some, None, Option, Bor, sym, refl, ap, ◌∙◌, subst, inl, inr, arith}
use Rattle.std.specs.Option.{option_map}
use Rattle.std.specs.List.{find, position_from}
use Rattle.std.proofs.lemmas.Bool.Decides.{nat_tests}
use Rattle.std.proofs.lemmas.Bool.{cond-true, cond-false, cases_Bool, or_parts}
use Rattle.refusal.specs.declared.reason.Refusal.TheVariants.{TooManyRecords, NoSuchRecord}
use Rattle.ringlaws.specs.declared.setting.Setting.{Setting}
use Rattle.ringlaws.specs.Layout.{records_of}
use Rattle.ringlaws.specs.TxnInfo.{Transaction, numbers_of, count_limit, member, distinct}
use Rattle.ringlaws.specs.Newest.{index_of, setting_of}
use Rattle.calls.specs.Plans.{put, may_put, set_refusal}
use Rattle.order.proofs.Settings.{put_again, put_new, distinct_snoc}

turned : (a b : ℕ) → eqb a b ≡ eqb b a
turned a b = grind (arith, nat_tests)

-- the first setting of the record r, counted from i on
position_is : (r : ℕ) (t : Transaction) (i : ℕ) → position_from (λ (s : Setting). eqb s.number r) i t ≡ option_map (λ k. i + k) (index_of r (numbers_of t))
unfolding index_of
position_is r [] i = refl
position_is r (s ∷ t) i =
    ap (λ b. cond b (Some i) (position_from (λ (x : Setting). eqb x.number r) (i + 1) t)) (turned s.number r)
    ∙ ap (cond (eqb r s.number) (Some i)) (position_is r t (i + 1))
    ∙ by_test (eqb r s.number) (index_of r (numbers_of t))
  where
    by_test : (b : Bool) (o : Option ℕ) → cond b (Some i) (option_map (λ k. (i + 1) + k) o) ≡ option_map (λ k. i + k) (cond b (Some 0) (option_map suc o))
    by_test true o = let e : i ≡ i + 0 = omega arith in ap Some e
    by_test false None = refl
    by_test false (Some k) = let e : (i + 1) + k ≡ i + suc k = omega arith in ap Some e

first_position : (r : ℕ) (t : Transaction) → position_from (λ (s : Setting). eqb s.number r) 0 t ≡ index_of r (numbers_of t)
first_position r t = position_is r t 0 ∙ same (index_of r (numbers_of t))
  where
    same : (o : Option ℕ) → option_map (λ k. 0 + k) o ≡ o
    same None = refl
    same (Some k) = let e : 0 + k ≡ k = omega arith in ap Some e

-- the unit of the first setting of the record r
abbrev pub setting_in : ℕ → Transaction → Option (List ℕ)
setting_in r t = option_map (λ s. s.unit) (find (λ s. eqb s.number r) t)

pub first_unit : (r : ℕ) (t : Transaction) → setting_in r t ≡ setting_of t r
unfolding setting_of
first_unit r [] = refl
first_unit r (s ∷ t) =
    ap (λ b. option_map (λ (x : Setting). x.unit) (cond b (Some s) (find (λ (x : Setting). eqb x.number r) t))) (turned s.number r)
    ∙ by_test (eqb r s.number)
    ∙ ap (cond (eqb r s.number) (Some s.unit)) (first_unit r t)
  where
    by_test : (b : Bool) → option_map (λ (x : Setting). x.unit) (cond b (Some s) (find (λ (x : Setting). eqb x.number r) t)) ≡ cond b (Some s.unit) (setting_in r t)
    by_test true = refl
    by_test false = refl

-- what a search that finds the first setting of the record answers
pub unit_found : (r : ℕ) (t : Transaction) (o p : Option (Bor Setting)) → option_map (λ (s : Bor Setting). s.now) o ≡ find (λ (s : Setting). eqb s.number r) t → o ≡ p
    → option_map (λ (s : Bor Setting). s.now.unit) p ≡ setting_of t r
unit_found r t o None e is = ap (λ x. option_map (λ (s : Setting). s.unit) (option_map (λ (s : Bor Setting). s.now) x)) (sym is) ∙ ap (option_map (λ (s : Setting). s.unit)) e ∙ first_unit r t
unit_found r t o (Some s) e is = ap (λ x. option_map (λ (s : Setting). s.unit) (option_map (λ (s : Bor Setting). s.now) x)) (sym is) ∙ ap (option_map (λ (s : Setting). s.unit)) e ∙ first_unit r t

-- record r is the i-th that is set, and no earlier one
pub data Stands (r : ℕ) : Transaction → ℕ → Type 0 where
  here : {s : Setting} {t : Transaction} → eqb r s.number ≡ true → Stands r (s ∷ t) 0
  there : {s : Setting} {t : Transaction} {i : ℕ} → eqb r s.number ≡ false → Stands r t i → Stands r (s ∷ t) (suc i)

-- an index found is such a position
pub stands : (r : ℕ) (t : Transaction) (i : ℕ) → index_of r (numbers_of t) ≡ Some i → Stands r t i
unfolding index_of
stands r [] i e = let z : ◌≡◌ {A = ℕ} 0 1 = cc in absurd (omega arith)
stands r (s ∷ t) i e =
    elim (cases_Bool (eqb r s.number)) [
      | inl same ↦
          let q : Some 0 ≡ Some i = sym (cond-true (eqb r s.number) (Some 0) (option_map suc (index_of r (numbers_of t))) same) ∙ e in
          let z : 0 ≡ i = cc in
          subst (Stands r (s ∷ t)) z (here same)
      | inr other ↦
          let q : option_map suc (index_of r (numbers_of t)) ≡ Some i = sym (cond-false (eqb r s.number) (Some 0) (option_map suc (index_of r (numbers_of t))) other) ∙ e in
          further other (index_of r (numbers_of t)) (λ k h. stands r t k h) q
    ]
  where
    further : eqb r s.number ≡ false → (o : Option ℕ) → ((k : ℕ) → o ≡ Some k → Stands r t k) → option_map suc o ≡ Some i → Stands r (s ∷ t) i
    further other None f q = let z : ◌≡◌ {A = ℕ} 0 1 = cc in absurd (omega arith)
    further other (Some k) f q = let z : suc k ≡ i = cc in subst (Stands r (s ∷ t)) z (there other (f k refl))

-- record r is set to this unit
abbrev setting : ℕ → List ℕ → Setting
setting r u = record { number = r; unit = u }

module _ {r : ℕ} where
  pub within : {t : Transaction} {i : ℕ} → Stands r t i → i < length t
  within (here e) = omega arith
  within (there e w) = let h = within w in omega arith

  pub listed : {t : Transaction} {i : ℕ} → Stands r t i → member r (numbers_of t) ≡ true
  unfolding member
  listed (here {s} {t} e) = ap (λ b. b || member r (numbers_of t)) e
  listed (there {s} {t} e w) = ap (λ b. b || member r (numbers_of t)) e ∙ listed w

  pub put_there : {t : Transaction} {i : ℕ} → Stands r t i → (u : List ℕ) → put t r u ≡ set t i (setting r u)
  unfolding put
  put_there (here {s} {t} e) u = cond-true (eqb r s.number) (setting r u ∷ t) (s ∷ put t r u) e
  put_there (there {s} {t} e w) u = cond-false (eqb r s.number) (setting r u ∷ t) (s ∷ put t r u) e ∙ ap (λ x. s ∷ x) (put_there w u)

-- a record that stands nowhere is not set
pub unlisted : (r : ℕ) (t : Transaction) → index_of r (numbers_of t) ≡ None → member r (numbers_of t) ≡ false
unfolding index_of member
unlisted r [] e = refl
unlisted r (s ∷ t) e = go (eqb r s.number) (index_of r (numbers_of t)) (λ h. unlisted r t h) e
  where
    go : (b : Bool) (o : Option ℕ) → (o ≡ None → member r (numbers_of t) ≡ false) → cond b (Some 0) (option_map suc o) ≡ None → b || member r (numbers_of t) ≡ false
    go true o f q = let z : ◌≡◌ {A = ℕ} 0 1 = cc in absurd (omega arith)
    go false None f q = f refl
    go false (Some k) f q = let z : ◌≡◌ {A = ℕ} 0 1 = cc in absurd (omega arith)

pub put_last : (r : ℕ) (t : Transaction) (u : List ℕ) → member r (numbers_of t) ≡ false → put t r u ≡ t ++ setting r u ∷ []
unfolding put member
put_last r [] u h = refl
put_last r (s ∷ t) u h =
    let p = or_parts (eqb r s.number) (member r (numbers_of t)) h in
    cond-false (eqb r s.number) (setting r u ∷ t) (s ∷ put t r u) p.0 ∙ ap (λ x. s ∷ x) (put_last r t u p.1)

-- numbers that are apart stay so
pub put_apart : (r : ℕ) (t : Transaction) (u : List ℕ) → distinct (numbers_of t) ≡ true → distinct (numbers_of (put t r u)) ≡ true
put_apart r t u h =
    elim (cases_Bool (member r (numbers_of t))) [
      | inl old ↦ ap distinct (put_again t r u old) ∙ h
      | inr new ↦ ap distinct (put_new t r u new) ∙ distinct_snoc (numbers_of t) r h new
    ]

-- what is refused of a record, by the block of its home and by where it stands
module _ (B r : ℕ) (t : Transaction) (inside : r / 16 < B) where
  below : ltb r (records_of B) ≡ true
  below = let h : r < 16 * B = omega arith in grind (arith, nat_tests)

  pub passes : may_put t r ≡ true → set_refusal B t r ≡ None
  passes h = cond-true (ltb r (records_of B)) (cond (may_put t r) None (Some TooManyRecords)) (Some NoSuchRecord) below ∙ cond-true (may_put t r) None (Some TooManyRecords) h

  pub passes_again : member r (numbers_of t) ≡ true → set_refusal B t r ≡ None
  passes_again h = passes (ap (λ b. b || ltb (length t) count_limit) h)

  pub passes_new : member r (numbers_of t) ≡ false → length t < 30 → set_refusal B t r ≡ None
  passes_new h few = passes (ap (λ b. b || ltb (length t) count_limit) h ∙ grind (arith, nat_tests))

  pub too_many : member r (numbers_of t) ≡ false → 30 ≤ length t → set_refusal B t r ≡ Some TooManyRecords
  too_many h many =
      let full : ltb (length t) count_limit ≡ false = grind (arith, nat_tests) in
      let none : may_put t r ≡ false = ap (λ b. b || ltb (length t) count_limit) h ∙ full in
      cond-true (ltb r (records_of B)) (cond (may_put t r) None (Some TooManyRecords)) (Some NoSuchRecord) below ∙ cond-false (may_put t r) None (Some TooManyRecords) none

-- what the search found in a slice that is the settings
pub found : (r i : ℕ) (xs t : Transaction) → xs ≡ t → Some i ≡ position_from (λ (s : Setting). eqb s.number r) 0 xs → Stands r t i
found r i xs t same e = stands r t i (sym (e ∙ first_position r xs ∙ ap (λ ys. index_of r (numbers_of ys)) same))

pub missed : (r : ℕ) (xs t : Transaction) → xs ≡ t → None ≡ position_from (λ (s : Setting). eqb s.number r) 0 xs → member r (numbers_of t) ≡ false
missed r xs t same e = unlisted r t (sym (e ∙ first_position r xs ∙ ap (λ ys. index_of r (numbers_of ys)) same))
