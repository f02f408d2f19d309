-- Transactions laid over homes: a unit stays 32 words long, to lay them twice is to lay them once, and where no home of a block
-- is named they change nothing there. Assumes nothing.
use Rattle.std.proofs.Common.{◌≡◌, ℕ, Bool, true, false, cond, eqb, ◌⊎◌, List, [], ◌∷◌, length, Some, None, Option, unwrap_or, sym, refl, ap, ◌∙◌, inl, inr, arith, eq-eqb, eqb-true}
use Rattle.std.proofs.lemmas.Bool.{or_parts}
use Rattle.ringlaws.specs.Layout.{home_block}
use Rattle.ringlaws.specs.TxnInfo.{Transaction, record_units}
use Rattle.ringlaws.specs.Spells.{Whole, AllFair}
use Rattle.ringlaws.specs.Newest.{setting_of, or_else, latest, lay, laid}
use Rattle.ringlaws.proofs.Seek.{laid_is_the_latest}
use Rattle.calls.specs.Table.{names_in, is_named}

never : true ≡ false → ⊥
never e = let z : ◌≡◌ {A = ℕ} 0 1 = cc in omega arith

-- a unit that a transaction is laid over is 32 words long again
lay_long : (t : Transaction) → Whole (record_units t) → (r : ℕ) (x : List ℕ) → length x ≡ 32 → length (unwrap_or (setting_of t r) x) ≡ 32
unfolding setting_of
lay_long [] w r x e = e
lay_long (s ∷ t) (here, w) r x e = by_test (eqb r s.number) (lay_long t w r x e)
  where
    by_test : (b : Bool) → length (unwrap_or (setting_of t r) x) ≡ 32 → length (unwrap_or (cond b (Some s.unit) (setting_of t r)) x) ≡ 32
    by_test true h = here
    by_test false h = h

pub laid_long : (B : ℕ) (ts : List Transaction) (homes : ℕ → List ℕ) → AllFair B ts → ((r : ℕ) → length (homes r) ≡ 32) → (r : ℕ) → length (laid ts homes r) ≡ 32
unfolding laid
laid_long B [] homes fair h r = h r
laid_long B (t ∷ ts) homes (here, fair) h r = laid_long B ts (lay t homes) fair (λ q. lay_long t here.whole q (homes q) (h q)) r

over_twice : (o : Option (List ℕ)) (x : List ℕ) → unwrap_or o (unwrap_or o x) ≡ unwrap_or o x
over_twice None x = refl
over_twice (Some u) x = refl

-- laid over a home that has its unit already, or over the old home: the same
pub laid_again : (ts : List Transaction) (homes others : ℕ → List ℕ) (r : ℕ) → (others r ≡ homes r) ⊎ (others r ≡ laid ts homes r) → laid ts others r ≡ laid ts homes r
laid_again ts homes others r (inl e) =
    laid_is_the_latest ts others r ∙ ap (unwrap_or (latest ts r)) e ∙ sym (laid_is_the_latest ts homes r)
laid_again ts homes others r (inr e) =
    laid_is_the_latest ts others r
    ∙ ap (unwrap_or (latest ts r)) (e ∙ laid_is_the_latest ts homes r)
    ∙ over_twice (latest ts r) (homes r)
    ∙ sym (laid_is_the_latest ts homes r)

-- a transaction without a name in the block of a record has no setting of it
unnamed_setting : (t : Transaction) (r : ℕ) → names_in t (home_block r) ≡ false → setting_of t r ≡ None
unfolding setting_of names_in
unnamed_setting [] r e = refl
unnamed_setting (s ∷ t) r e = by_test (eqb r s.number) refl (λ h. unnamed_setting t r h)
  where
    parts : (eqb (home_block s.number) (home_block r) ≡ false) × (names_in t (home_block r) ≡ false)
    parts = or_parts (eqb (home_block s.number) (home_block r)) (names_in t (home_block r)) e

    by_test : (b : Bool) → eqb r s.number ≡ b → (names_in t (home_block r) ≡ false → setting_of t r ≡ None) → cond b (Some s.unit) (setting_of t r) ≡ None
    by_test true i f = absurd (never (sym (eq-eqb (home_block s.number) (home_block r) (ap home_block (sym (eqb-true r s.number i)))) ∙ parts.0))
    by_test false i f = f parts.1

unnamed_latest : (ts : List Transaction) (r : ℕ) → is_named ts (home_block r) ≡ false → latest ts r ≡ None
unfolding latest is_named
unnamed_latest [] r e = refl
unnamed_latest (t ∷ ts) r e =
    let parts = or_parts (names_in t (home_block r)) (is_named ts (home_block r)) e in
    ap (λ o. or_else o (setting_of t r)) (unnamed_latest ts r parts.1) ∙ unnamed_setting t r parts.0

-- a record in a block that no transaction names is its home
pub unnamed_laid : (ts : List Transaction) (homes : ℕ → List ℕ) (r : ℕ) → is_named ts (home_block r) ≡ false → laid ts homes r ≡ homes r
unnamed_laid ts homes r e = laid_is_the_latest ts homes r ∙ ap (λ o. unwrap_or o (homes r)) (unnamed_latest ts r e)
