-- Parts of rows, as the library's slices read and write them. Assumes nothing.
use Rattle.std.proofs.Common.{◌≡◌, ℕ, zero, suc, ◌+◌, ◌-◌, ◌*◌, ◌/◌, ◌<◌, ◌≤◌, Bool, true, false, cond, ◌||◌, eqb, List, length, get_or, take, drop, sym, refl, ap, ◌∙◌, arith, add-one}
use Rattle.std.proofs.Math.Bool.{or_comm}
use Rattle.std.specs.List.{list_any}
use Rattle.std.proofs.lemmas.Bool.{eqb-true}
use Rattle.std.proofs.lemmas.Grind.{common_steps}
use Rattle.std.proofs.lemmas.List.{length-drop, get_or-drop}
use Rattle.std.proofs.lemmas.List.Folds.{list_any_more}
use Rattle.device.specs.Sectors.{any_below}
use borrow.Rule.Slice.PartMut.{put_mid}

-- whether one of n marks from a place on passes, as the library and as a disk counts
any_of_part : (p : Bool → Bool) → ((y : Bool) → p y ≡ y) → (ms : List Bool) (from n : ℕ) → from + n ≤ length ms → list_any p (take n (drop from ms)) ≡ any_below (λ k. get_or ms (from + k) false) n
unfolding any_below
any_of_part p same ms from zero l = refl
any_of_part p same ms from (suc n) l =
    let rest = drop from ms in
    let within : n < length rest = omega (arith, length-drop from ms) in
    ap (λ k. list_any p (take k rest)) (sym (add-one n))
    ∙ list_any_more p rest n false within
    ∙ ap (λ t. t || p (get_or rest n false)) (any_of_part p same ms from n (omega arith))
    ∙ or_comm (any_below (λ k. get_or ms (from + k) false) n) (p (get_or rest n false))
    ∙ ap (λ t. t || any_below (λ k. get_or ms (from + k) false) n) (same (get_or rest n false) ∙ get_or-drop from ms n false)

-- the same, of a slice of k marks
pub any_of_slice : (p : Bool → Bool) → ((y : Bool) → p y ≡ y) → (ms : List Bool) (from n k : ℕ) → k ≡ n → from + n ≤ length ms → list_any p (take k (drop from ms)) ≡ any_below (λ k. get_or ms (from + k) false) n
any_of_slice p same ms from n k e l = ap (λ m. list_any p (take m (drop from ms))) e ∙ any_of_part p same ms from n l

-- a row in which a block was overwritten
pub block_put : (xs ys : List ℕ) (b : ℕ) → 512 * b + 512 ≤ length xs → length ys ≡ 512
    → (w : ℕ) → get_or (put_mid (512 * b) (512 * b + 512 - 512 * b) xs ys) w 0 ≡ cond (eqb (w / 512) b) (get_or ys (w - 512 * b) 0) (get_or xs w 0)
block_put xs ys b within long w = grind (arith, common_steps)

-- a word of a block that was copied out
pub block_taken : (xs : List ℕ) (b w : ℕ) (t : Bool) (z : ℕ) → eqb (w / 512) b ≡ t → cond t (get_or (take (512 * b + 512 - 512 * b) (drop (512 * b) xs)) (w - 512 * b) 0) z ≡ cond t (get_or xs w 0) z
block_taken xs b w false z e = refl
block_taken xs b w true z e = let q = eqb-true (w / 512) b e in grind (arith, common_steps)
