use Rattle.std.proofs.Common.{◌≡◌, ℕ, ◌+◌, ◌*◌, ◌/◌, ◌≤◌, Bool, true, false, cond, ◌&&◌, ◌||◌, eqb, List, get_or, sym, refl, ap, ◌∙◌, arith}
use Rattle.std.proofs.lemmas.Bool.Decides.{nat_tests}
use Rattle.std.proofs.lemmas.Bool.{eqb-true}
use Rattle.simulated.specs.Lists.{inside}
use Rattle.disks.specs.Rows.{goes_back}
use Rattle.disks.proofs.Regions.{grown_by}
use Rattle.disks.proofs.sectors.revert_block.Goals as goal
use Rattle.disks.proofs.sectors.revert_block.Goals.{then-goes_back, else-goes_back}

-- a test at the place itself
at_place : (p : ℕ → Bool) (s t : ℕ) (x : Bool) → p t ≡ x → (eqb s t && x) ≡ (eqb s t && p s)
at_place p s t x e = by_test (eqb s t) refl
  where
    by_test : (d : Bool) → eqb s t ≡ d → (d && x) ≡ (d && p s)
    by_test true i = sym (ap p (eqb-true s t i) ∙ e)
    by_test false i = refl

-- one sector more
step : (p : ℕ → Bool) (b k s old base z z' : ℕ) (x : Bool) → 8 * b ≤ k → p k ≡ x → z ≡ cond (inside (8 * b) k s && p s) old base → z' ≡ cond (eqb s k && x) old z
    → z' ≡ cond (inside (8 * b) (k + 1) s && p s) old base
step p b k s old base z z' x le e h g =
    let y : (inside (8 * b) k s || eqb s k) ≡ inside (8 * b) (k + 1) s = grind (arith, nat_tests) in
    g ∙ ap (λ t. cond t old z) (at_place p s k x e) ∙ grown_by (inside (8 * b) k s) (eqb s k) (p s) old base z h ∙ ap (λ t. cond (t && p s) old base) y

and_true : (t : Bool) → t ≡ (t && true)
and_true true = refl
and_true false = refl

and_false : (t : Bool) → false ≡ (t && false)
and_false true = refl
and_false false = refl

pub loop-sector-preserved : goal.loop-sector-preserved
loop-sector-preserved c w =
    let p = goes_back c.args.waiting.now c.args.how.now in
    let b = c.args.block in
    let k = c.loop-sector.sector in
    let old = get_or c.args.settled.now w 0 in
    let base = get_or c.args.present.now w 0 in
    let z = get_or c.loop-sector.present w 0 in
    elim c.if-goes_back.branch [
      | then-goes_back v ↦ step p b k (w / 64) old base z _ true (omega arith) (sym c.goes_back.ensures ∙ v.if-goes_back.true) (c.loop-sector.invariant w)
          (ap (λ (xs : List ℕ). get_or xs w 0) v.present-is ∙ v.revert_sector.ensures w ∙ ap (λ t. cond t old z) (and_true (eqb (w / 64) k)))
      | else-goes_back v ↦ step p b k (w / 64) old base z _ false (omega arith) (sym c.goes_back.ensures ∙ v.if-goes_back.false) (c.loop-sector.invariant w)
          (ap (λ (xs : List ℕ). get_or xs w 0) v.present-is ∙ ap (λ t. cond t old z) (and_false (eqb (w / 64) k)))
    ]

-- all eight sectors are the block's
whole : (b k w : ℕ) → k ≡ 8 * b + 8 → inside (8 * b) k (w / 64) ≡ eqb (w / 512) b
whole b k w e = let q : w / 64 / 8 ≡ w / 512 = omega arith in grind (arith, nat_tests)
