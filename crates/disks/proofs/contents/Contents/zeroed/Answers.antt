use Rattle.std.proofs.Common.{◌≡◌, ℕ, zero, suc, ◌+◌, ◌*◌, Bool, false, List, get_or, take, replicate, refl, ap, ◌∙◌, arith, rules}
use Rattle.std.proofs.lemmas.List.{length-replicate}
use Rattle.std.proofs.lemmas.Result.{MatchResult-weaker}
use Rattle.std.proofs.lemmas.Bool.{cond-false}
use Rattle.std.proofs.lemmas.List.FromFn.{fill_by_all, length-map-range_with_len}
use Rattle.device.specs.Pieces.{settled}
use Rattle.device.specs.Sectors.{sector_of}
use Rattle.simulated.proofs.Laws.{same_state}
use Rattle.disks.specs.State.{blocks_in, made_of, blank}
use Rattle.disks.specs.Parts.{sector_word}
use Rattle.disks.proofs.contents.Contents.zeroed.Goals as goal

all_one : {X : Type 0} (x : X) (k n w : ℕ) → get_or (take k (replicate n x)) w x ≡ x
all_one x zero n w = refl
all_one x (suc k) zero w = refl
all_one x (suc k) (suc n) zero = refl
all_one x (suc k) (suc n) (suc w) = all_one x k n w

zero_sector : (words : List ℕ) (s : ℕ) → ((w : ℕ) → get_or words w 0 ≡ 0) → sector_of words s ≡ replicate 64 0
unfolding sector_of
zero_sector words s h = fill_by_all (λ k. 0) (sector_of words s) 64 0 (length-map-range_with_len (λ k. get_or words (64 * s + k) 0) 0 64) (λ i l. sector_word words s i l ∙ h (64 * s + i))

module _ (blocks acts n m : ℕ) (long : n ≡ 512 * blocks) (eights : m ≡ 8 * blocks) where
  size : blocks_in (replicate n 0) (replicate n 0) (replicate m false) ≡ blocks
  size = omega (arith, length-replicate {A = ℕ} n 0, length-replicate m false)

  blank_made : made_of (replicate n 0) (replicate n 0) (replicate m false) acts ≡ blank blocks acts
  blank_made =
      let k = blocks_in (replicate n 0) (replicate n 0) (replicate m false) in
      same_state (made_of (replicate n 0) (replicate n 0) (replicate m false) acts) (blank blocks acts) size refl
      (λ s. cond-false (get_or (take (8 * k) (replicate m false)) s false) _ _ (all_one false (8 * k) m s) ∙ ap settled (zero_sector (take (512 * k) (replicate n 0)) s (λ w. all_one 0 (512 * k) n w)))
      refl

pub returns : goal.returns
returns c =
    let words = c.in_ok-words.words in
    let long : words ≡ c.args.blocks * 512 = search rules in
    let olds : c.in_ok-settled.settled.items ≡ replicate words 0 = search rules in
    let news : c.in_ok-present.present.items ≡ replicate words 0 = search rules in
    let marks : c.in_ok-waiting.waiting.items ≡ replicate (8 * c.args.blocks) false = search rules in
    MatchResult-weaker c.new.result c.new.ensures
    (λ d e. e
    ∙ ap (λ (xs : List ℕ). made_of xs c.in_ok-present.present.items c.in_ok-waiting.waiting.items c.args.acts) olds
    ∙ ap (λ (xs : List ℕ). made_of (replicate words 0) xs c.in_ok-waiting.waiting.items c.args.acts) news
    ∙ ap (λ (xs : List Bool). made_of (replicate words 0) (replicate words 0) xs c.args.acts) marks
    ∙ blank_made c.args.blocks c.args.acts words (8 * c.args.blocks) (omega (arith, long)) refl)
    (λ y q. q)
