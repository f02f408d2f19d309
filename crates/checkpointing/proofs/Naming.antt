-- The rows of a ring name what its transactions name. Assumes nothing.
use Rattle.std.proofs.Common.{◌≡◌, ℕ, zero, suc, ◌+◌, Bool, true, false, cond, ◌||◌, eqb, List, [], ◌∷◌, Some, None, Option, sym, refl, ap, ◌∙◌, arith}
use Rattle.std.specs.Option.{option_map}
use Rattle.std.proofs.lemmas.Bool.{or_parts, eq-eqb, eqb-true}
use Rattle.ringlaws.specs.Layout.{Contents, place_at, home_block}
use Rattle.ringlaws.specs.TxnInfo.{Transaction}
use Rattle.ringlaws.specs.Spells.{AllFair}
use Rattle.ringlaws.specs.Newest.{setting_of, or_else, latest}
use Rattle.calls.specs.Table.{names_in, is_named}
use Rattle.calls.specs.Acts.{named_blocks}
use Rattle.checkpointing.specs.declared.rows.Row.{Row}
use Rattle.checkpointing.specs.Rows.{place_in, is_home, chosen_below}
use Rattle.checkpointing.proofs.Rowing.{first_row}
use Rattle.checkpointing.proofs.Nexts.{never}

not_some : {X : Type 0} (x : X) → ◌≡◌ {A = Option X} (Some x) None → ⊥
not_some x e = let z : ◌≡◌ {A = ℕ} 0 1 = cc in omega arith

-- a first row is its record's
first_placed : (row : Row) (rows : List Row) → place_in (row ∷ rows) row.number ≡ None → ⊥
first_placed row rows n =
    not_some row.place
    (sym (ap (λ x. cond x (Some row.place) (place_in rows row.number)) (eq-eqb row.number row.number refl)) ∙ sym (first_row row rows row.number) ∙ n)

-- where no home of the record's block is named, no transaction sets the record
unnamed_setting : (t : Transaction) (r : ℕ) → names_in t (home_block r) ≡ false → setting_of t r ≡ None
unfolding setting_of names_in
unnamed_setting [] r e = refl
unnamed_setting (s ∷ t) r e = by_test (eqb r s.number) refl (λ h. unnamed_setting t r h)
  where
    parts : (eqb (home_block s.number) (home_block r) ≡ false) × (names_in t (home_block r) ≡ false)
    parts = or_parts (eqb (home_block s.number) (home_block r)) (names_in t (home_block r)) e

    by_test : (b : Bool) → eqb r s.number ≡ b → (names_in t (home_block r) ≡ false → setting_of t r ≡ None) → cond b (Some s.unit) (setting_of t r) ≡ None
    by_test true i f = absurd (never (sym (eq-eqb (home_block s.number) (home_block r) (ap home_block (sym (eqb-true r s.number i)))) ∙ parts.0))
    by_test false i f = f parts.1

unnamed_latest : (ts : List Transaction) (r : ℕ) → is_named ts (home_block r) ≡ false → latest ts r ≡ None
unfolding latest is_named
unnamed_latest [] r e = refl
unnamed_latest (t ∷ ts) r e =
    let parts = or_parts (names_in t (home_block r)) (is_named ts (home_block r)) e in
    ap (λ o. or_else o (setting_of t r)) (unnamed_latest ts r parts.1) ∙ unnamed_setting t r parts.0

-- a named block is home to a record that is set
abbrev Set : {X : Type 0} → (ℕ → Option X) → ℕ → Type 0
Set values b = (r : ℕ) × (home_block r ≡ b) × (values r ≡ None → ⊥)

either : {X : Type 0} (u : X) (o : Option X) → (o ≡ None → ⊥) → (x : Bool) → cond x (Some u) o ≡ None → ⊥
either u o some true n = not_some u n
either u o some false n = some n

named_setting : (t : Transaction) (b : ℕ) → names_in t b ≡ true → Set (setting_of t) b
unfolding setting_of names_in
named_setting [] b e = absurd (never (sym e))
named_setting (s ∷ t) b e = by_test (eqb (home_block s.number) b) refl e (λ h. named_setting t b h)
  where
    by_test : (x : Bool) → eqb (home_block s.number) b ≡ x → x || names_in t b ≡ true → (names_in t b ≡ true → Set (setting_of t) b)
        → Set (λ r. cond (eqb r s.number) (Some s.unit) (setting_of t r)) b
    by_test true i h rec = (
      s.number,
      eqb-true (home_block s.number) b i,
      (λ n. not_some s.unit (sym (ap (λ x. cond x (Some s.unit) (setting_of t s.number)) (eq-eqb s.number s.number refl)) ∙ n)),
    )
    by_test false i h rec = let (r, home, some) = rec h in (r, home, either s.unit (setting_of t r) some (eqb r s.number))

named_latest : (ts : List Transaction) (b : ℕ) → is_named ts b ≡ true → Set (latest ts) b
unfolding latest is_named
named_latest [] b e = absurd (never (sym e))
named_latest (t ∷ ts) b e = by_test (names_in t b) refl e (λ h. named_latest ts b h)
  where
    first : (o p : Option (List ℕ)) → (p ≡ None → ⊥) → or_else o p ≡ None → ⊥
    first None p some n = some n
    first (Some x) p some n = not_some x n

    second : (o p : Option (List ℕ)) → (o ≡ None → ⊥) → or_else o p ≡ None → ⊥
    second None p some n = some refl
    second (Some x) p some n = not_some x n

    by_test : (x : Bool) → names_in t b ≡ x → x || is_named ts b ≡ true → (is_named ts b ≡ true → Set (latest ts) b) → Set (λ r. or_else (latest ts r) (setting_of t r)) b
    by_test true i h rec = let (r, home, some) = named_setting t b i in (r, home, first (latest ts r) (setting_of t r) some)
    by_test false i h rec = let (r, home, some) = rec h in (r, home, second (latest ts r) (setting_of t r) some)

-- the same of rows: where the record's home is none of theirs, no row is the record's; a home of theirs is home to a record with a place
unplaced : (rows : List Row) (r : ℕ) → is_home rows (home_block r) ≡ false → place_in rows r ≡ None
unplaced [] r e = refl
unplaced (row ∷ rows) r e = first_row row rows r ∙ by_test (eqb r row.number) refl (λ h. unplaced rows r h)
  where
    parts : (eqb (home_block row.number) (home_block r) ≡ false) × (is_home rows (home_block r) ≡ false)
    parts = or_parts (eqb (home_block row.number) (home_block r)) (is_home rows (home_block r)) e

    by_test : (b : Bool) → eqb r row.number ≡ b → (is_home rows (home_block r) ≡ false → place_in rows r ≡ None) → cond b (Some row.place) (place_in rows r) ≡ None
    by_test true i rec = absurd (never (sym (eq-eqb (home_block row.number) (home_block r) (ap home_block (sym (eqb-true r row.number i)))) ∙ parts.0))
    by_test false i rec = rec parts.1

placed : (rows : List Row) (b : ℕ) → is_home rows b ≡ true → Set (place_in rows) b
placed [] b e = absurd (never (sym e))
placed (row ∷ rows) b e = by_test (eqb (home_block row.number) b) refl e (λ h. placed rows b h)
  where
    by_test : (x : Bool) → eqb (home_block row.number) b ≡ x → x || is_home rows b ≡ true → (is_home rows b ≡ true → Set (place_in rows) b) → Set (place_in (row ∷ rows)) b
    by_test true i h rec = (row.number, eqb-true (home_block row.number) b i, first_placed row rows)
    by_test false i h rec =
        let (r, home, some) = rec h in
        (r, home, (λ n. either row.place (place_in rows r) some (eqb r row.number) (sym (first_row row rows r) ∙ n)))

-- rows whose places hold the latest units
module _ (c : Contents) (ts : List Transaction) (rows : List Row) (held : (r : ℕ) → option_map (place_at c) (place_in rows r) ≡ latest ts r) where
  none_latest : (r : ℕ) → place_in rows r ≡ None → latest ts r ≡ None
  none_latest r e = sym (held r) ∙ ap (option_map (place_at c)) e

  none_row : (r : ℕ) → latest ts r ≡ None → place_in rows r ≡ None
  none_row r e = by_row (place_in rows r) (held r ∙ e)
    where
      by_row : (o : Option ℕ) → option_map (place_at c) o ≡ None → o ≡ None
      by_row None f = refl
      by_row (Some p) f = absurd (not_some (place_at c p) f)

  pub rows_named : (b : ℕ) → is_home rows b ≡ is_named ts b
  rows_named b = by_tests (is_home rows b) refl (is_named ts b) refl
    where
      by_tests : (t : Bool) → is_home rows b ≡ t → (u : Bool) → is_named ts b ≡ u → t ≡ u
      by_tests true e true f = refl
      by_tests false e false f = refl
      by_tests true e false f = let (r, home, some) = placed rows b e in absurd (some (none_row r (unnamed_latest ts r (ap (is_named ts) home ∙ f))))
      by_tests false e true f = let (r, home, some) = named_latest ts b f in absurd (some (none_latest r (unplaced rows r (ap (is_home rows) home ∙ e))))

  -- as many blocks are home to a row as are named
  pub rows_counted : (B : ℕ) → chosen_below (is_home rows) B ≡ named_blocks B ts
  unfolding chosen_below named_blocks
  rows_counted zero = refl
  rows_counted (suc b) = ap (λ x. x + cond (is_home rows b) 1 0) (rows_counted b) ∙ ap (λ t. named_blocks b ts + cond t 1 0) (rows_named b)

-- no rows, no transactions
pub rows_none : (B : ℕ) (c : Contents) (ts : List Transaction) → AllFair B ts → ((r : ℕ) → option_map (place_at c) (place_in [] r) ≡ latest ts r) → ts ≡ []
unfolding is_named names_in
rows_none B c [] fair held = refl
rows_none B c ([] ∷ ts) (f, fair) held = let l = f.least in absurd (omega arith)
rows_none B c ((s ∷ t) ∷ ts) fair held =
    let on : is_named ((s ∷ t) ∷ ts) (home_block s.number) ≡ true =
    ap (λ x. (x || names_in t (home_block s.number)) || is_named ts (home_block s.number)) (eq-eqb (home_block s.number) (home_block s.number) refl) in
    absurd (never (sym on ∙ sym (rows_named c ((s ∷ t) ∷ ts) [] held (home_block s.number))))

-- rows, then transactions
pub rows_some : (c : Contents) (row : Row) (rows : List Row) → ((r : ℕ) → option_map (place_at c) (place_in (row ∷ rows) r) ≡ latest [] r) → ⊥
unfolding latest
rows_some c row rows held = first_placed row rows (none_row c [] (row ∷ rows) held row.number refl)
