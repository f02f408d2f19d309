-- A row of writes that goes up through the blocks of a disk and writes some of them, each once. Assumes nothing.
use Rattle.std.proofs.Common.{◌≡◌, ℕ, zero, suc, ◌/◌, ◌%◌, ◌<◌, ◌≤◌, Bool, true, false, cond, ◌&&◌, eqb, ltb, List, [], ◌∷◌, sym, refl, ap, ◌∙◌, arith, eqb-true}
use Rattle.std.proofs.lemmas.Bool.Decides.{nat_tests}
use Rattle.device.specs.Sectors.{DiskAct, Write, sector_of}
use Rattle.crash.specs.Runs.{each_of}
use Rattle.crash.specs.Keeping.{disk_keeps, kept}
use Rattle.crash.specs.Rows.{writes_block, Writes}
use Rattle.crash.proofs.Follow.{kept_append}
use Rattle.crash.proofs.Rows.{write_one, writes_each}

module _ (chosen : ℕ → Bool) (blocks : ℕ → List ℕ) where
  abbrev turn : ℕ → List DiskAct
  turn b = cond (chosen b) (Write b (blocks b) ∷ []) []

  -- the chosen blocks below n, with these words
  abbrev pub writing : ℕ → List DiskAct
  writing n = each_of turn n

  -- what the turn of a block writes
  turn_fits : (u b : ℕ) → b < u → Writes u (turn b)
  turn_fits u b lt = by_test (chosen b)
    where
      by_test : (t : Bool) → Writes u (cond t (Write b (blocks b) ∷ []) [])
      by_test true = write_one u b (blocks b) lt
      by_test false = (tt, tt)

  turn_own : (b x : ℕ) → writes_block x (turn b) ≡ true → x ≡ b
  turn_own b x e = by_test (chosen b) e
    where
      by_test : (t : Bool) → writes_block x (cond t (Write b (blocks b) ∷ []) []) ≡ true → x ≡ b
      by_test true h = grind (arith, nat_tests)
      by_test false h = absurd (grind (arith, nat_tests))

  turn_other : (b x : ℕ) → (x ≡ b → ⊥) → writes_block x (turn b) ≡ false
  turn_other b x ne = by_test (writes_block x (turn b)) refl
    where
      by_test : (t : Bool) → writes_block x (turn b) ≡ t → t ≡ false
      by_test true h = absurd (ne (turn_own b x h))
      by_test false h = refl

  pub writing_fits : (n u : ℕ) → n ≤ u → Writes u (writing n)
  writing_fits n u le =
      writes_each u turn n (λ b lt. turn_fits u b (omega arith)) (λ i j b lt below h. turn_other j b (λ q. let p = turn_own i b h in omega arith))

  -- what the writes leave of the contents of a sector
  pub writing_kept : (n s : ℕ) (x : List ℕ) → kept disk_keeps (writing n) s x ≡ cond (ltb (s / 8) n && chosen (s / 8)) (sector_of (blocks (s / 8)) (s % 8)) x
  unfolding each_of
  writing_kept zero s x =
      let no : ltb (s / 8) 0 ≡ false = grind (arith, nat_tests) in
      sym (ap (λ t. cond (t && chosen (s / 8)) (sector_of (blocks (s / 8)) (s % 8)) x) no)
  writing_kept (suc n) s x =
      kept_append disk_keeps (writing n) (turn n) s x
      ∙ ap (kept disk_keeps (turn n) s) (writing_kept n s x)
      ∙ by_test (eqb (s / 8) n) refl
    where
      new : List ℕ
      new = sector_of (blocks (s / 8)) (s % 8)

      one : (t u : Bool) (y : List ℕ) → eqb (s / 8) n ≡ u → kept disk_keeps (cond t (Write n (blocks n) ∷ []) []) s y ≡ cond t (cond u (sector_of (blocks n) (s % 8)) y) y
      one true u y i = ap (λ v. cond v (sector_of (blocks n) (s % 8)) y) i
      one false u y i = refl

      same : (t : Bool) (y : List ℕ) → cond t y y ≡ y
      same true y = refl
      same false y = refl

      by_test : (u : Bool) → eqb (s / 8) n ≡ u
          → kept disk_keeps (turn n) s (cond (ltb (s / 8) n && chosen (s / 8)) new x) ≡ cond (ltb (s / 8) (suc n) && chosen (s / 8)) new x
      by_test true i =
          let q : s / 8 ≡ n = eqb-true (s / 8) n i in
          let old : ltb (s / 8) n ≡ false = grind (arith, nat_tests) in
          let now : ltb (s / 8) (suc n) ≡ true = grind (arith, nat_tests) in
          one (chosen n) true _ i
          ∙ ap (λ t. cond (chosen n) (sector_of (blocks n) (s % 8)) (cond (t && chosen (s / 8)) new x)) old
          ∙ ap (λ b. cond (chosen b) (sector_of (blocks b) (s % 8)) x) (sym q)
          ∙ ap (λ t. cond (t && chosen (s / 8)) new x) (sym now)
      by_test false i =
          let q : ltb (s / 8) n ≡ ltb (s / 8) (suc n) = grind (arith, nat_tests) in
          one (chosen n) false _ i ∙ same (chosen n) _ ∙ ap (λ t. cond (t && chosen (s / 8)) new x) q
