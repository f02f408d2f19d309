-- The settings of an open transaction stay fair. Assumes nothing.
use Rattle.std.proofs.Common.{◌≡◌, ℕ, ◌<◌, Bool, true, false, cond, not, ◌||◌, eqb, ltb, List, [], ◌∷◌, ◌++◌, length, Some, None, sym, refl, ap, ◌∙◌, subst, inl, inr, arith, length-append}
use Rattle.std.proofs.lemmas.List.{length-map}
use Rattle.std.proofs.lemmas.Bool.{cond-true, cond-false, cases_Bool, eqb-true, ltb-true, both_ways, or_parts, or_cases, or_from, and_parts, and_from, not-true, eq-eqb}
use Rattle.refusal.specs.declared.reason.Refusal.TheVariants.{TooManyRecords, NoSuchRecord}
use Rattle.ringlaws.specs.declared.setting.Setting.{Setting}
use Rattle.ringlaws.specs.Layout.{records_of}
use Rattle.ringlaws.specs.TxnInfo.{Transaction, numbers_of, record_units, count_limit, member, distinct, all_below}
use Rattle.ringlaws.specs.Spells.{Whole, Fair}
use Rattle.calls.specs.Plans.{put, may_put, set_refusal}
use Rattle.order.specs.Order.{FairSettings}

-- record r was set already: the numbers stay; else it comes last
pub put_again : (t : Transaction) (r : ℕ) (u : List ℕ) → member r (numbers_of t) ≡ true → numbers_of (put t r u) ≡ numbers_of t
unfolding put member
put_again [] r u h = absurd (both_ways false refl h)
put_again (s ∷ t) r u h =
    elim (cases_Bool (eqb r s.number)) [
      | inl e ↦
          ap numbers_of (cond-true (eqb r s.number) (record { number = r; unit = u } ∷ t) (s ∷ put t r u) e)
          ∙ ap (λ (n : ℕ). n ∷ numbers_of t) (eqb-true r s.number e)
      | inr e ↦
          ap numbers_of (cond-false (eqb r s.number) (record { number = r; unit = u } ∷ t) (s ∷ put t r u) e)
          ∙ ap (λ (ns : List ℕ). s.number ∷ ns) (put_again t r u (subst (λ (b : Bool). b || member r (numbers_of t) ≡ true) e h))
    ]

pub put_new : (t : Transaction) (r : ℕ) (u : List ℕ) → member r (numbers_of t) ≡ false → numbers_of (put t r u) ≡ numbers_of t ++ r ∷ []
unfolding put member
put_new [] r u h = refl
put_new (s ∷ t) r u h =
    elim (cases_Bool (eqb r s.number)) [
      | inl e ↦ absurd (both_ways (eqb r s.number) (or_parts (eqb r s.number) (member r (numbers_of t)) h).0 e)
      | inr e ↦
          ap numbers_of (cond-false (eqb r s.number) (record { number = r; unit = u } ∷ t) (s ∷ put t r u) e)
          ∙ ap (λ (ns : List ℕ). s.number ∷ ns) (put_new t r u (subst (λ (b : Bool). b || member r (numbers_of t) ≡ false) e h))
    ]

pub below_snoc : (limit : ℕ) (ns : List ℕ) (r : ℕ) → all_below limit ns ≡ true → ltb r limit ≡ true → all_below limit (ns ++ r ∷ []) ≡ true
unfolding all_below
below_snoc limit [] r h k = and_from (ltb r limit) true k refl
below_snoc limit (n ∷ ns) r h k =
    let p = and_parts (ltb n limit) (all_below limit ns) h in
    and_from (ltb n limit) (all_below limit (ns ++ r ∷ [])) p.0 (below_snoc limit ns r p.1 k)

member_snoc : (x : ℕ) (ns : List ℕ) (r : ℕ) → member x ns ≡ false → eqb x r ≡ false → member x (ns ++ r ∷ []) ≡ false
unfolding member
member_snoc x [] r h k = or_from (eqb x r) false k refl
member_snoc x (n ∷ ns) r h k =
    let p = or_parts (eqb x n) (member x ns) h in
    or_from (eqb x n) (member x (ns ++ r ∷ [])) p.0 (member_snoc x ns r p.1 k)

apart : (x r : ℕ) (ns : List ℕ) → eqb r x || member r ns ≡ false → eqb x r ≡ false
apart x r ns h =
    elim (cases_Bool (eqb x r)) [
      | inl e ↦ absurd (both_ways (eqb r x) (or_parts (eqb r x) (member r ns) h).0 (eq-eqb r x (sym (eqb-true x r e))))
      | inr e ↦ e
    ]

pub distinct_snoc : (ns : List ℕ) (r : ℕ) → distinct ns ≡ true → member r ns ≡ false → distinct (ns ++ r ∷ []) ≡ true
unfolding distinct member
distinct_snoc [] r h k = refl
distinct_snoc (n ∷ ns) r h k =
    let p = and_parts (not (member n ns)) (distinct ns) h in
    and_from (not (member n (ns ++ r ∷ []))) (distinct (ns ++ r ∷ []))
    (ap not (member_snoc n ns r (not-true (member n ns) p.0) (apart n r ns k)))
    (distinct_snoc ns r p.1 (or_parts (eqb r n) (member r ns) k).1)

pub no_settings : (B : ℕ) → FairSettings B []
unfolding all_below distinct
no_settings B = record { most = omega arith; below = refl; apart = refl; whole = tt }

put_whole : (t : Transaction) (r : ℕ) (u : List ℕ) → Whole (record_units t) → length u ≡ 32 → Whole (record_units (put t r u))
unfolding put
put_whole [] r u h k = (k, tt)
put_whole (s ∷ t) r u h k =
    elim (cases_Bool (eqb r s.number)) [
      | inl e ↦ subst (λ (x : Transaction). Whole (record_units x)) (sym (cond-true (eqb r s.number) (record { number = r; unit = u } ∷ t) (s ∷ put t r u) e)) (k, h.1)
      | inr e ↦
          subst (λ (x : Transaction). Whole (record_units x)) (sym (cond-false (eqb r s.number) (record { number = r; unit = u } ∷ t) (s ∷ put t r u) e))
          (h.0, put_whole t r u h.1 k)
    ]

-- there are as many settings as numbers
as_many : (t : Transaction) → length (numbers_of t) ≡ length t
as_many t = length-map t (λ (s : Setting). s.number)

-- a setting that is not refused keeps the settings fair
pub put_fair : (B : ℕ) (t : Transaction) (r : ℕ) (u : List ℕ)
    → FairSettings B t → ltb r (records_of B) ≡ true → may_put t r ≡ true → length u ≡ 32 → FairSettings B (put t r u)
put_fair B t r u f inside room long =
    elim (cases_Bool (member r (numbers_of t))) [
      | inl old ↦
          let e : numbers_of (put t r u) ≡ numbers_of t = put_again t r u old in
          record {
            most = let a = ap length e in let b = as_many t in let c = as_many (put t r u) in let h = f.most in omega arith;
            below = ap (all_below (records_of B)) e ∙ f.below;
            apart = ap distinct e ∙ f.apart;
            whole = put_whole t r u f.whole long;
          }
      | inr new ↦
          let e : numbers_of (put t r u) ≡ numbers_of t ++ r ∷ [] = put_new t r u new in
          let few : length t < count_limit = elim (or_cases (member r (numbers_of t)) (ltb (length t) count_limit) room) [
            | inl old ↦ absurd (both_ways (member r (numbers_of t)) new old)
            | inr lt ↦ ltb-true (length t) count_limit lt
          ] in
          record {
            most = let a = ap length e in let b = as_many t in let c = as_many (put t r u) in let l = length-append (numbers_of t) (r ∷ []) in omega arith;
            below = ap (all_below (records_of B)) e ∙ below_snoc (records_of B) (numbers_of t) r f.below inside;
            apart = ap distinct e ∙ distinct_snoc (numbers_of t) r f.apart new;
            whole = put_whole t r u f.whole long;
          }
    ]

-- what is asked of a setting that is not refused
pub set_passes : (B : ℕ) (l : Transaction) (r : ℕ) → set_refusal B l r ≡ None → (ltb r (records_of B) ≡ true) × (may_put l r ≡ true)
set_passes B l r h = go (ltb r (records_of B)) (may_put l r) h
  where
    go : (x y : Bool) → cond x (cond y None (Some TooManyRecords)) (Some NoSuchRecord) ≡ None → (x ≡ true) × (y ≡ true)
    go true true h = (refl, refl)
    go true false h = let z : ◌≡◌ {A = ℕ} 0 1 = cc in absurd (omega arith)
    go false y h = let z : ◌≡◌ {A = ℕ} 0 1 = cc in absurd (omega arith)

-- fair settings, of which there are some, may be committed
pub settings_fair : (B : ℕ) (s : Setting) (t : Transaction) → FairSettings B (s ∷ t) → Fair B (s ∷ t)
settings_fair B s t f = record { least = omega arith; most = f.most; below = f.below; apart = f.apart; whole = f.whole }
