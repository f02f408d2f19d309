-- How runs of acts join and part. Assumes nothing.
use Rattle.std.proofs.Common.{◌≡◌, ℕ, zero, suc, ◌+◌, ◌-◌, ◌<◌, ◌⊎◌, List, [], ◌∷◌, ◌++◌, IsErrAnd, Ok, Err, Result, sym, refl, ap, ◌∙◌, subst, inl, inr, append_assoc, arith}
use Rattle.crash.specs.Runs.{Performed, done, then, Stopped, Halted, Ran, each_of, Each}

module _ {M A : Type 0} {Step : M → A → M → Type 0} where
  pub performed_append : {fs bs : List A} {m n p : M} → Performed Step m fs n → Performed Step n bs p → Performed Step m (fs ++ bs) p
  performed_append done t = t
  performed_append (then s r) t = then s (performed_append r t)

  pub performed_one : {m n : M} {a : A} → Step m a n → Performed Step m (a ∷ []) n
  performed_one s = then s done

  pub performed_more : {fs : List A} {a : A} {m n p : M} → Performed Step m fs n → Step n a p → Performed Step m (fs ++ a ∷ []) p
  performed_more r s = performed_append r (performed_one s)

  pub performed_split : (fs bs : List A) {m n : M} → Performed Step m (fs ++ bs) n → (k : M) × Performed Step m fs k × Performed Step k bs n
  performed_split [] bs {m} r = (m, done, r)
  performed_split (a ∷ fs) bs (then s r) = let (k, x, y) = performed_split fs bs r in (k, then s x, y)

-- the act a of two rows stands in the first or in the second
split_at : {A : Type 0} (fs bs front : List A) (a : A) (back : List A) → fs ++ bs ≡ front ++ a ∷ back
    → ((r : List A) × (fs ≡ front ++ a ∷ r)) ⊎ ((r : List A) × (front ≡ fs ++ r) × (bs ≡ r ++ a ∷ back))
split_at [] bs front a back e = inr (front, refl, e)
split_at (x ∷ fs) bs [] a back e = let h : x ≡ a = cc in inl (fs, ap (λ y. y ∷ fs) h)
split_at (x ∷ fs) bs (f ∷ front) a back e =
    let h : x ≡ f = cc in
    let t : fs ++ bs ≡ front ++ a ∷ back = cc in
    elim (split_at fs bs front a back t) [
      | inl (r, p) ↦ inl (r, (let q : x ∷ fs ≡ f ∷ (front ++ a ∷ r) = cc in q))
      | inr (r, p, q) ↦ inr (r, (let s : f ∷ front ≡ x ∷ (fs ++ r) = cc in s), q)
    ]

none_parts : {A : Type 0} (front : List A) (a : A) (back : List A) → [] ≡ front ++ a ∷ back → ⊥
none_parts [] a back e = let z : ◌≡◌ {A = ℕ} 0 1 = cc in omega arith
none_parts (f ∷ front) a back e = let z : ◌≡◌ {A = ℕ} 0 1 = cc in omega arith

module _ {M A : Type 0} {Step Stops : M → A → M → Type 0} where
  pub stopped_one : {m n : M} {a : A} → Stops m a n → Stopped Step Stops m (a ∷ []) n
  stopped_one {m} {n} {a} s = record { front = []; act = a; back = []; parts = refl; middle = m; ran = done; stops = s }

  -- what stops in the first or in the second of two rows of acts
  pub stopped_first : {m n : M} {fs : List A} (bs : List A) → Stopped Step Stops m fs n → Stopped Step Stops m (fs ++ bs) n
  stopped_first bs h = record {
    front = h.front;
    act = h.act;
    back = h.back ++ bs;
    parts = ap (λ t. t ++ bs) h.parts ∙ append_assoc h.front (h.act ∷ h.back) bs;
    middle = h.middle;
    ran = h.ran;
    stops = h.stops;
  }

  pub stopped_second : {m n p : M} {fs bs : List A} → Performed Step m fs n → Stopped Step Stops n bs p → Stopped Step Stops m (fs ++ bs) p
  stopped_second {fs = fs} r h = record {
    front = fs ++ h.front;
    act = h.act;
    back = h.back;
    parts = ap (λ t. fs ++ t) h.parts ∙ sym (append_assoc fs h.front (h.act ∷ h.back));
    middle = h.middle;
    ran = performed_append r h.ran;
    stops = h.stops;
  }

  pub stopped_split : (fs bs : List A) {m n : M} → Stopped Step Stops m (fs ++ bs) n
      → Stopped Step Stops m fs n ⊎ ((k : M) × Performed Step m fs k × Stopped Step Stops k bs n)
  stopped_split fs bs {m} {n} c = elim (split_at fs bs c.front c.act c.back c.parts) [
    | inl (r, p) ↦ inl record { front = c.front; act = c.act; back = r; parts = p; middle = c.middle; ran = c.ran; stops = c.stops }
    | inr (r, p, q) ↦
        let (k, x, y) = performed_split fs r (subst (λ (t : List A). Performed Step m t c.middle) p c.ran) in
        inr (k, x, record { front = r; act = c.act; back = c.back; parts = q; middle = c.middle; ran = y; stops = c.stops })
  ]

  -- a list without acts cannot be stopped
  pub stopped_none : {m n : M} → Stopped Step Stops m [] n → ⊥
  stopped_none c = none_parts c.front c.act c.back c.parts

pub each_more : {A : Type 0} (f : ℕ → List A) (i : ℕ) → each_of f (i + 1) ≡ each_of f i ++ f i
unfolding each_of
each_more f i = let e : i + 1 ≡ suc i = omega arith in ap (each_of f) e

-- a loop that runs the acts f i at its turn i
module _ {M A : Type 0} {Step : M → A → M → Type 0} (f : ℕ → List A) where
  pub loop_none : (m : M) → Performed Step m (each_of f 0) m
  unfolding each_of
  loop_none m = done

  pub loop_more : {m n p : M} (i : ℕ) → Performed Step m (each_of f i) n → Performed Step n (f i) p → Performed Step m (each_of f (i + 1)) p
  loop_more i r s = rw (each_more f i) (performed_append r s)

module _ {M A : Type 0} {Step Stops : M → A → M → Type 0} (f : ℕ → List A) where
  stops_later : {m n p : M} (i k : ℕ) → Performed Step m (each_of f i) n → Stopped Step Stops n (f i) p → Stopped Step Stops m (each_of f (suc i + k)) p
  unfolding each_of
  stops_later {m} {n} {p} i zero r h =
      let q : suc i ≡ suc i + 0 = omega arith in
      subst (λ (j : ℕ). Stopped Step Stops m (each_of f j) p) q (stopped_second r h)
  stops_later {m} {n} {p} i (suc k) r h =
      let q : suc (suc i + k) ≡ suc i + suc k = omega arith in
      subst (λ (j : ℕ). Stopped Step Stops m (each_of f j) p) q (stopped_first (f (suc i + k)) (stops_later i k r h))

  pub loop_stops : {m n p : M} (i k : ℕ) → i < k → Performed Step m (each_of f i) n → Stopped Step Stops n (f i) p → Stopped Step Stops m (each_of f k) p
  loop_stops {m} {n} {p} i k lt r h =
      let q : suc i + (k - suc i) ≡ k = omega arith in
      subst (λ (j : ℕ). Stopped Step Stops m (each_of f j) p) q (stops_later i (k - suc i) r h)

  -- a loop that was stopped was stopped at one of its turns
  pub loop_stopped : {m p : M} (k : ℕ) → Stopped Step Stops m (each_of f k) p
      → (i : ℕ) × (i < k) × ((n : M) × Performed Step m (each_of f i) n × Stopped Step Stops n (f i) p)
  unfolding each_of
  loop_stopped zero h = absurd (stopped_none h)
  loop_stopped (suc k) h = elim (stopped_split (each_of f k) (f k) h) [
    | inl s ↦ let (i, lt, more) = loop_stopped k s in (i, omega (arith, lt), more)
    | inr s ↦ (k, omega arith, s)
  ]

-- The answers of calls. The exit of a `?`:
pub ran_broken : {M A E V : Type 0} (Step : M → A → M → Type 0) (Refused : M → A → E → M → Type 0) {m n : M} {acts : List A} (e : E) (r : Result V E)
    → IsErrAnd r (λ y. y ≡ e) → Halted Step Refused m acts e n → Ran Step Refused m acts r n
ran_broken Step Refused e (Ok u) b h = absurd b
ran_broken {E = E} Step Refused {m} {n} {acts} e (Err y) b h = subst (λ (z : E). Halted Step Refused m acts z n) (sym b) h

-- a second call after the first was performed whole
pub ran_after : {M A E V : Type 0} (Step : M → A → M → Type 0) (Refused : M → A → E → M → Type 0) {m n : M} {fs : List A} (p : M) (bs : List A) (r : Result V E)
    → Performed Step m fs n → Ran Step Refused n bs r p → Ran Step Refused m (fs ++ bs) r p
ran_after Step Refused p bs (Ok u) q s = performed_append q s
ran_after Step Refused p bs (Err e) q s = stopped_second q s

module _ {A : Type 0} (P : A → Type 0) where
  pub each_append : (xs ys : List A) → Each P xs → Each P ys → Each P (xs ++ ys)
  each_append [] ys h k = k
  each_append (a ∷ xs) ys (x, h) k = (x, each_append xs ys h k)

  pub each_front : (xs ys : List A) → Each P (xs ++ ys) → Each P xs
  each_front [] ys h = tt
  each_front (a ∷ xs) ys (x, h) = (x, each_front xs ys h)

  pub each_back : (xs ys : List A) → Each P (xs ++ ys) → Each P ys
  each_back [] ys h = h
  each_back (a ∷ xs) ys (x, h) = each_back xs ys h

  pub each_each : (f : ℕ → List A) (n : ℕ) → ((i : ℕ) → i < n → Each P (f i)) → Each P (each_of f n)
  unfolding each_of
  each_each f zero h = tt
  each_each f (suc n) h = each_append (each_of f n) (f n) (each_each f n (λ i l. h i (omega arith))) (h n (omega arith))

-- what holds of each act as one thing holds of it as another
pub each_turned : {A : Type 0} (P Q : A → Type 0) → ((a : A) → P a → Q a) → (acts : List A) → Each P acts → Each Q acts
each_turned P Q f [] h = tt
each_turned P Q f (a ∷ more) (x, h) = (f a x, each_turned P Q f more h)
