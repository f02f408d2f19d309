-- The rows of a ring, gathered step by step. Assumes nothing.
use Rattle.std.proofs.Common.{◌≡◌, ℕ, suc, ◌+◌, ◌-◌, ◌<◌, ◌≤◌, Bool, true, false, cond, eqb, List, [], ◌∷◌, ◌++◌, length, take, Some, None, Option, sym, refl, ap, ◌∙◌, arith, length-append}
use Rattle.std.specs.Option.{option_map}
use Rattle.std.specs.List.{find}
use Rattle.std.proofs.lemmas.Bool.{and_parts, leb-true}
use Rattle.ringlaws.specs.Layout.{Contents, before, used_between}
use Rattle.ringlaws.specs.TxnInfo.{taken, count_in, numbers_in, good_count}
use Rattle.ringlaws.specs.Sound.{info_before, stepped}
use Rattle.ringlaws.specs.Newest.{or_else, index_of, seeking_back, newest}
use Rattle.ringlaws.proofs.Seek.{seek_end, seek_here, seek_on}
use Rattle.ring.specs.declared.step.Step.{Step}
use Rattle.ring.specs.Sources.{Reading, Agrees}
use Rattle.ring.specs.Walks.{Stepped}
use Rattle.checkpointing.specs.declared.rows.Row.{Row}
use Rattle.checkpointing.specs.Rows.{place_in}

-- a first row
pub first_row : (row : Row) (rows : List Row) (r : ℕ) → place_in (row ∷ rows) r ≡ cond (eqb r row.number) (Some row.place) (place_in rows r)
first_row row rows r = by_test (eqb r row.number)
  where
    by_test : (t : Bool) → option_map (λ (x : Row). x.place) (cond t (Some row) (find (λ x. eqb r x.number) rows)) ≡ cond t (Some row.place) (place_in rows r)
    by_test true = refl
    by_test false = refl

-- a last row
last_row : (rows : List Row) (row : Row) (r : ℕ) → place_in (rows ++ row ∷ []) r ≡ or_else (place_in rows r) (cond (eqb r row.number) (Some row.place) None)
last_row [] row r = first_row row [] r
last_row (x ∷ rows) row r =
    first_row x (rows ++ row ∷ []) r
    ∙ ap (cond (eqb r x.number) (Some x.place)) (last_row rows row r)
    ∙ by_test (eqb r x.number)
    ∙ ap (λ o. or_else o (cond (eqb r row.number) (Some row.place) None)) (sym (first_row x rows r))
  where
    by_test : (t : Bool) → cond t (Some x.place) (or_else (place_in rows r) (cond (eqb r row.number) (Some row.place) None)) ≡ or_else (cond t (Some x.place) (place_in rows r)) (cond (eqb r row.number) (Some row.place) None)
    by_test true = refl
    by_test false = refl

-- a last number
last_index : (r : ℕ) (xs : List ℕ) (x : ℕ) → index_of r (xs ++ x ∷ []) ≡ or_else (index_of r xs) (cond (eqb r x) (Some (length xs)) None)
unfolding index_of
last_index r [] x = refl
last_index r (y ∷ xs) x = ap (λ o. cond (eqb r y) (Some 0) (option_map suc o)) (last_index r xs x) ∙ by_tests (eqb r y) (eqb r x) (index_of r xs)
  where
    by_tests : (t u : Bool) (o : Option ℕ) → cond t (Some 0) (option_map suc (or_else o (cond u (Some (length xs)) None))) ≡ or_else (cond t (Some 0) (option_map suc o)) (cond u (Some (suc (length xs))) None)
    by_tests true u o = refl
    by_tests false u (Some k) = refl
    by_tests false true None = refl
    by_tests false false None = refl

joined : (f : ℕ → ℕ) (a o : Option ℕ) (t : Bool) (i : ℕ) → or_else (or_else a (option_map f o)) (cond t (Some (f i)) None) ≡ or_else a (option_map f (or_else o (cond t (Some i) None)))
joined f (Some x) o t i = refl
joined f None (Some k) t i = refl
joined f None None true i = refl
joined f None None false i = refl

else_none : (o : Option ℕ) → or_else o None ≡ o
else_none None = refl
else_none (Some x) = refl

-- behind the old rows stand those of the numbers, each with the place that f gives its index
module _ (old : List Row) (f : ℕ → ℕ) where
  pub record Added (numbers : List ℕ) (rows : List Row) : Type 0 where
    pub long : length rows ≡ length old + length numbers
    pub found : (r : ℕ) → place_in rows r ≡ or_else (place_in old r) (option_map f (index_of r numbers))

  pub added_none : Added [] old
  unfolding index_of
  added_none = record { long = omega arith; found = λ r. sym (else_none (place_in old r)) }

  pub added_on : (numbers : List ℕ) (rows : List Row) (number place : ℕ) → place ≡ f (length numbers) → Added numbers rows
      → Added (numbers ++ number ∷ []) (rows ++ record { number = number; place = place } ∷ [])
  added_on numbers rows number place is h = record {
    long = let l = h.long in let a = length-append rows (record { number = number; place = place } ∷ []) in let b = length-append numbers (number ∷ []) in omega arith;
    found = λ r.
        last_row rows (record { number = number; place = place }) r
        ∙ ap (λ o. or_else o (cond (eqb r number) (Some place) None)) (h.found r)
        ∙ ap (λ p. or_else (or_else (place_in old r) (option_map f (index_of r numbers))) (cond (eqb r number) (Some p) None)) is
        ∙ joined f (place_in old r) (index_of r numbers) (eqb r number) (length numbers)
        ∙ ap (λ o. or_else (place_in old r) (option_map f o)) (sym (last_index r numbers number));
  }

seek_more : (N : ℕ) (c : Contents) (r place left : ℕ) → 0 < left → good_count left (info_before N c place) ≡ true
    → seeking_back N c r left place left
    ≡ or_else (option_map (λ k. before N place (taken (count_in (info_before N c place)) - k)) (index_of r (numbers_in (info_before N c place))))
    (seeking_back N c r (left - taken (count_in (info_before N c place))) (stepped N c place) (left - taken (count_in (info_before N c place))))
seek_more N c r place left lt g = by_index (index_of r (numbers_in (info_before N c place))) refl
  where
    rest : Option ℕ
    rest = seeking_back N c r (left - taken (count_in (info_before N c place))) (stepped N c place) (left - taken (count_in (info_before N c place)))

    by_index : (o : Option ℕ) → index_of r (numbers_in (info_before N c place)) ≡ o
        → seeking_back N c r left place left ≡ or_else (option_map (λ k. before N place (taken (count_in (info_before N c place)) - k)) o) rest
    by_index None i = seek_on N c r place left lt g i
    by_index (Some k) i = seek_here N c r place left k lt g i

else_else : (a b o : Option ℕ) → or_else a (or_else b o) ≡ or_else (or_else a b) o
else_else (Some x) b o = refl
else_else None b o = refl

-- the rows so far, and the search that is left
module _ (reads : Reading) (N B head tail : ℕ) where
  abbrev pub Gathered : List Row → ℕ → ℕ → Type 0
  Gathered rows place left = (c : Contents) → Agrees reads c → (r : ℕ) → newest N c head tail r ≡ or_else (place_in rows r) (seeking_back N c r left place left)

  pub gathered_none : (left : ℕ) → left ≡ used_between N head tail → Gathered [] tail left
  gathered_none left e c a r = ap (λ k. seeking_back N c r k tail k) (sym e)

  pub gathered_on : (rows rows' : List Row) (place left : ℕ) (s : Step) → Stepped reads N B place left s → 0 < left → (numbers : List ℕ) → numbers ≡ take s.count s.info → length numbers ≡ s.count
      → Gathered rows place left
      → ((r : ℕ) → place_in rows' r ≡ or_else (place_in rows r) (option_map (λ k. before N place (taken (length numbers) - k)) (index_of r numbers)))
      → Gathered rows' s.first s.left
  gathered_on rows rows' place left s st lt numbers is long h add c a r =
      let i : info_before N c place ≡ s.info = sym (st.info c a) in
      let good : good_count left s.info ≡ true = (and_parts _ _ (and_parts _ _ st.is_good).1).0 in
      let m : count_in s.info ≡ length numbers = sym (long ∙ st.count) in
      let named : take (count_in s.info) s.info ≡ numbers = ap (λ k. take k s.info) (sym st.count) ∙ sym is in
      let f : before N place (taken (length numbers)) ≡ s.first = ap (λ x. before N place (taken x)) (sym m) ∙ sym st.first in
      let l : left - taken (length numbers) ≡ s.left = ap (λ x. left - taken x) (sym m) ∙ sym st.rest in
      let old : Option ℕ = place_in rows r in
      h c a r
      ∙ ap (or_else old)
      (seek_more N c r place left lt (ap (good_count left) i ∙ good)
      ∙ ap (λ u. or_else (option_map (λ k. before N place (taken (count_in u) - k)) (index_of r (numbers_in u))) (seeking_back N c r (left - taken (count_in u)) (before N place (taken (count_in u))) (left - taken (count_in u)))) i
      ∙ ap (λ u. or_else (option_map (λ k. before N place (taken (count_in s.info) - k)) (index_of r u)) (seeking_back N c r (left - taken (count_in s.info)) (before N place (taken (count_in s.info))) (left - taken (count_in s.info)))) named
      ∙ ap (λ x. or_else (option_map (λ k. before N place (taken x - k)) (index_of r numbers)) (seeking_back N c r (left - taken x) (before N place (taken x)) (left - taken x))) m
      ∙ ap (λ x. or_else (option_map (λ k. before N place (taken (length numbers) - k)) (index_of r numbers)) (seeking_back N c r x (before N place (taken (length numbers))) x)) l
      ∙ ap (λ x. or_else (option_map (λ k. before N place (taken (length numbers) - k)) (index_of r numbers)) (seeking_back N c r s.left x s.left)) f)
      ∙ else_else old (option_map (λ k. before N place (taken (length numbers) - k)) (index_of r numbers)) (seeking_back N c r s.left s.first s.left)
      ∙ ap (λ o. or_else o (seeking_back N c r s.left s.first s.left)) (sym (add r))

  pub gathered_all : (rows : List Row) (place left : ℕ) → left ≤ 0 → Gathered rows place left
      → (c : Contents) → Agrees reads c → (r : ℕ) → newest N c head tail r ≡ place_in rows r
  gathered_all rows place left le h c a r =
      let z : left ≡ 0 = omega arith in
      h c a r ∙ ap (λ k. or_else (place_in rows r) (seeking_back N c r k place k)) z ∙ ap (or_else (place_in rows r)) (seek_end N c r place) ∙ else_none (place_in rows r)

-- a step takes its records' places and the TxnInfo's from those left
pub step_takes : (reads : Reading) (N B place left : ℕ) (s : Step) → Stepped reads N B place left s → (1 ≤ s.count) × (s.count ≤ 30) × (s.count + 1 ≤ left) × (s.left + (s.count + 1) ≡ left)
step_takes reads N B place left s st =
    let good : good_count left s.info ≡ true = (and_parts _ _ (and_parts _ _ st.is_good).1).0 in
    let (least, rest) = and_parts _ _ good in
    let (most, fits) = and_parts _ _ rest in
    let a : 1 ≤ count_in s.info = leb-true 1 (count_in s.info) least in
    let b : count_in s.info ≤ 30 = leb-true (count_in s.info) 30 most in
    let d : taken (count_in s.info) ≤ left = leb-true (taken (count_in s.info)) left fits in
    let q = st.count in
    let r = st.rest in
    (omega (arith, a, q), omega (arith, b, q), omega (arith, d, q), omega (arith, d, q, r))
