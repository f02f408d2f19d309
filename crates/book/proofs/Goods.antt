-- The settings of an open transaction stay fit to be committed and to be read.
use Rattle.std.proofs.Common.{◌≡◌, ℕ, ◌<◌, ◌≤◌, Bool, true, false, cond, eqb, ltb, ◌⊎◌, List, [], ◌∷◌, ◌++◌, length, Some, Option, unwrap_or, sym, refl, ap, ◌∙◌, subst, inl, inr, arith, length-append}
use Rattle.std.proofs.lemmas.List.{length-map}
use Rattle.std.proofs.lemmas.Bool.{cond-true, cond-false, cases_Bool, ltb-true, both_ways, or_cases}
use Rattle.refusal.specs.declared.reason.Refusal.TheVariants.{ForeignUnit}
use Rattle.ringlaws.specs.declared.setting.Setting.{Setting}
use Rattle.ringlaws.specs.Layout.{records_of}
use Rattle.ringlaws.specs.TxnInfo.{Transaction, numbers_of, record_units, count_limit, member, distinct, all_below, all_zero}
use Rattle.ringlaws.specs.Spells.{Whole, Fair}
use Rattle.ringlaws.specs.Newest.{setting_of, lay}
use Rattle.calls.specs.declared.answer.Answer.TheVariants.{Refused, Absent}
use Rattle.calls.specs.Table.{zero_unit}
use Rattle.calls.specs.Plans.{Kind, put, may_put, read_by, read_unit}
use Rattle.order.proofs.Settings.{put_again, put_new, below_snoc, distinct_snoc}
use Rattle.book.specs.Promise.{Lawful}

-- a unit that is zero or of the kind
abbrev pub Readable : {R : Type 0} → Kind R → List ℕ → Type 0
Readable {R} kind u = (u ≡ zero_unit) ⊎ ((x : R) × (u ≡ kind.unit x))

abbrev pub EachReadable : {R : Type 0} → Kind R → Transaction → Type 0
EachReadable kind [] = Unit {0}
EachReadable kind (s ∷ t) = Readable kind s.unit × EachReadable kind t

-- the settings of an open transaction, on a disk of B blocks
pub record Good {R : Type 0} (kind : Kind R) (B : ℕ) (t : Transaction) : Type 0 where
  pub most : length (numbers_of t) ≤ count_limit
  pub below : all_below (records_of B) (numbers_of t) ≡ true
  pub apart : distinct (numbers_of t) ≡ true
  pub readable : EachReadable kind t

pub good_none : {R : Type 0} (kind : Kind R) (B : ℕ) → Good kind B []
unfolding all_below distinct
good_none kind B = record { most = omega arith; below = refl; apart = refl; readable = tt }

put_readable : {R : Type 0} (kind : Kind R) (t : Transaction) (r : ℕ) (u : List ℕ) → EachReadable kind t → Readable kind u → EachReadable kind (put t r u)
unfolding put
put_readable kind [] r u h k = (k, tt)
put_readable kind (s ∷ t) r u h k =
    elim (cases_Bool (eqb r s.number)) [
      | inl e ↦ subst (EachReadable kind) (sym (cond-true (eqb r s.number) (record { number = r; unit = u } ∷ t) (s ∷ put t r u) e)) (k, h.1)
      | inr e ↦
          subst (EachReadable kind) (sym (cond-false (eqb r s.number) (record { number = r; unit = u } ∷ t) (s ∷ put t r u) e))
          (h.0, put_readable kind t r u h.1 k)
    ]

-- a setting that is not refused keeps the settings good
pub put_good : {R : Type 0} (kind : Kind R) (B : ℕ) (t : Transaction) (r : ℕ) (u : List ℕ)
    → Good kind B t → ltb r (records_of B) ≡ true → may_put t r ≡ true → Readable kind u → Good kind B (put t r u)
put_good kind B t r u g inside room read =
    elim (cases_Bool (member r (numbers_of t))) [
      | inl old ↦
          let e : numbers_of (put t r u) ≡ numbers_of t = put_again t r u old in
          record {
            most = subst (λ (ns : List ℕ). length ns ≤ count_limit) (sym e) g.most;
            below = ap (all_below (records_of B)) e ∙ g.below;
            apart = ap distinct e ∙ g.apart;
            readable = put_readable kind t r u g.readable read;
          }
      | inr new ↦
          let e : numbers_of (put t r u) ≡ numbers_of t ++ r ∷ [] = put_new t r u new in
          let few : length t < count_limit = elim (or_cases (member r (numbers_of t)) (ltb (length t) count_limit) room) [
            | inl old ↦ absurd (both_ways (member r (numbers_of t)) new old)
            | inr lt ↦ ltb-true (length t) count_limit lt
          ] in
          record {
            most = subst (λ (ns : List ℕ). length ns ≤ count_limit) (sym e) (let l = length-append (numbers_of t) (r ∷ []) in let k = length-map t (λ (s : Setting). s.number) in omega arith);
            below = ap (all_below (records_of B)) e ∙ below_snoc (records_of B) (numbers_of t) r g.below inside;
            apart = ap distinct e ∙ distinct_snoc (numbers_of t) r g.apart new;
            readable = put_readable kind t r u g.readable read;
          }
    ]

module _ {R : Type 0} (kind : Kind R) (lawful : Lawful kind) where
  whole_unit : (u : List ℕ) → Readable kind u → length u ≡ 32
  whole_unit u (inl e) = ap length e
  whole_unit u (inr x) = ap length x.1 ∙ lawful.whole x.0

  whole_units : (t : Transaction) → EachReadable kind t → Whole (record_units t)
  whole_units [] h = tt
  whole_units (s ∷ t) h = (whole_unit s.unit h.0, whole_units t h.1)

  -- good settings, of which there are some, may be committed
  pub good_fair : (B : ℕ) (s : Setting) (t : Transaction) → Good kind B (s ∷ t) → Fair B (s ∷ t)
  good_fair B s t g = record {
    least = omega arith;
    most = let h = g.most in let k = length-map (s ∷ t) (λ (x : Setting). x.number) in omega arith;
    below = g.below;
    apart = g.apart;
    whole = whole_units (s ∷ t) g.readable;
  }

  setting_readable : (t : Transaction) (units : ℕ → List ℕ) (r : ℕ) → EachReadable kind t → Readable kind (units r) → Readable kind (lay t units r)
  unfolding setting_of
  setting_readable [] units r h k = k
  setting_readable (s ∷ t) units r h k =
      elim (cases_Bool (eqb r s.number)) [
        | inl e ↦ subst (λ (o : Option (List ℕ)). Readable kind (unwrap_or o (units r))) (sym (cond-true (eqb r s.number) (Some s.unit) (setting_of t r) e)) h.0
        | inr e ↦
            subst (λ (o : Option (List ℕ)). Readable kind (unwrap_or o (units r))) (sym (cond-false (eqb r s.number) (Some s.unit) (setting_of t r) e))
            (setting_readable t units r h.1 k)
      ]

  -- readable settings laid over readable units are readable
  pub lay_readable : (t : Transaction) (units : ℕ → List ℕ) → EachReadable kind t → ((r : ℕ) → Readable kind (units r)) → (r : ℕ) → Readable kind (lay t units r)
  lay_readable t units h k r = setting_readable t units r h (k r)

  found_not_foreign : (o : Option R) (x : R) → o ≡ Some x → read_by o ≡ Refused ForeignUnit → ⊥
  found_not_foreign o x e h = let z : ◌≡◌ {A = ℕ} 0 1 = cc in omega arith

  by_test : (b : Bool) (o : Option R) (x : R) → o ≡ Some x → cond b Absent (read_by o) ≡ Refused ForeignUnit → ⊥
  by_test true o x e h = let z : ◌≡◌ {A = ℕ} 0 1 = cc in omega arith
  by_test false o x e h = found_not_foreign o x e h

  zero_test : all_zero zero_unit ≡ true
  unfolding all_zero
  zero_test = refl

  -- a readable unit is never foreign
  pub never_foreign : (u : List ℕ) → Readable kind u → read_unit kind u ≡ Refused ForeignUnit → ⊥
  never_foreign u (inl e) h =
      let a : read_unit kind u ≡ Absent = ap (read_unit kind) e ∙ cond-true (all_zero zero_unit) Absent (read_by (kind.reads zero_unit)) zero_test in
      let z : ◌≡◌ {A = ℕ} 0 1 = cc in
      omega arith
  never_foreign u (inr x) h = by_test (all_zero u) (kind.reads u) x.0 (ap kind.reads x.1 ∙ lawful.back x.0) h
