use Rattle.std.proofs.Common.{◌≡◌, ℕ, ◌<◌, sym, ◌∙◌, subst, arith}
use Rattle.device.specs.Words.{words_of, loads}
use Rattle.ringlaws.specs.Sound.{SoundBetween}
use Rattle.ring.specs.Walks.{WhyRefused}
use Rattle.checkpointing.proofs.Loading.{loads_agree}
use Rattle.calling.proofs.Asking.{carried, is_sound, why}
use Rattle.calling.proofs.contents.check_contents.Goals as goal

pub returns-in_err-check : goal.returns-in_err-check
returns-in_err-check g c =
    let m = g.N.Nvm.meaning c.args.nvm.now in
    let at = c.in_ok-ring.ensures in
    let w0 = loads_agree m 0 c.in_ok-mark.mark (sym c.in_ok-mark.ensures) in
    let w1 = loads_agree m 1 c.in_ok-named_places.named_places (sym c.in_ok-named_places.ensures) in
    let w2 = loads_agree m 2 c.in_ok-named_blocks.named_blocks (sym c.in_ok-named_blocks.ensures) in
    let e0 = c.if-mark-ne-GROUND_MARK.false in
    let e1 = c.if-named_places-places.false in
    let e2 = c.if-named_blocks-blocks.false in
    let l0 = c.if-ring-places.false in
    let l1 = c.if-ring-places-2.false in
    let size = c.requires.size in
    let same : c.in_ok-ring.ring.places ≡ c.args.places = omega (arith, size, at.0) in
    carried c.in_err-check.field-0.0 c.from_residual-in_err-check.result _ _ c.from_residual-in_err-check.ensures.1
    (why m c.args.places c.args.blocks c.in_ok-ring.ring.head c.in_ok-ring.ring.tail c.in_err-check.field-0.0 c.requires.lit c.requires.size c.requires.most
    (w0 ∙ e0) (w1 ∙ e1) (w2 ∙ e2) l0 l1 at.1 at.2
    (subst (λ (i : ℕ). WhyRefused (loads m) i c.args.blocks c.in_ok-ring.ring.head c.in_ok-ring.ring.tail c.in_err-check.field-0.0) same c.in_err-check.ensures))

pub returns : goal.returns
returns g c =
    let m = g.N.Nvm.meaning c.args.nvm.now in
    let at = c.in_ok-ring.ensures in
    let w0 = loads_agree m 0 c.in_ok-mark.mark (sym c.in_ok-mark.ensures) in
    let w1 = loads_agree m 1 c.in_ok-named_places.named_places (sym c.in_ok-named_places.ensures) in
    let w2 = loads_agree m 2 c.in_ok-named_blocks.named_blocks (sym c.in_ok-named_blocks.ensures) in
    let e0 = c.if-mark-ne-GROUND_MARK.false in
    let e1 = c.if-named_places-places.false in
    let e2 = c.if-named_blocks-blocks.false in
    let l0 = c.if-ring-places.false in
    let l1 = c.if-ring-places-2.false in
    let size = c.requires.size in
    let same : c.in_ok-ring.ring.places ≡ c.args.places = omega (arith, size, at.0) in (
      is_sound c.args.places c.args.blocks (words_of m) (w0 ∙ e0) (w1 ∙ e1) (w2 ∙ e2) (subst (λ (i : ℕ). i < c.args.places) at.1 l0) (subst (λ (i : ℕ). i < c.args.places) at.2 l1)
          c.in_ok-ring.ring.head c.in_ok-ring.ring.tail at.1 at.2
          (subst (λ (i : ℕ). SoundBetween i c.args.blocks (words_of m) c.in_ok-ring.ring.head c.in_ok-ring.ring.tail) same (c.in_ok-check.ensures.1 (words_of m) (loads_agree m))),
      same,
      at.1,
      at.2,
    )
