use Rattle.std.proofs.Common.{◌≡◌, ℕ, ◌+◌, ◌*◌, ◌/◌, ◌<◌, Bool, true, false, eqb, List, get_or, sym, ap, ◌∙◌, subst, inl, inr, arith, eq-eqb}
use Rattle.std.proofs.lemmas.Bool.{cases_eq, or_left, or_right}
use Rattle.device.specs.Sectors.{any_below}
use Rattle.simulated.specs.Lists.{member}
use Rattle.simulated.specs.Listing.{lines_of, with_line}
use Rattle.simulated.specs.declared.pending.Pending.{Pending}
use Rattle.simulated.proofs.Members.{no_true, member_with}
use Rattle.disks.specs.Parts.{none_waits}
use Rattle.disks.proofs.making.list_marked.Goals as goal
use Rattle.disks.proofs.making.list_marked.Goals.{then-any_waits, else-any_waits}

abbrev Listed : List Bool → ℕ → ℕ → Pending → Type 0
Listed ms size b p = (p.size ≡ size) × ((s : ℕ) → s / 8 < b → get_or ms s false ≡ true → member (s / 8) (lines_of p) ≡ true)

added : (ms : List Bool) (size b : ℕ) (p q : Pending) → Listed ms size b p → q.size ≡ p.size → lines_of q ≡ with_line (lines_of p) b → Listed ms size (b + 1) q
added ms size b p q (e, h) z lines = (
  z ∙ e,
  λ s l m. ap (member (s / 8)) lines ∙ member_with (s / 8) b (lines_of p) ∙ elim (cases_eq (s / 8) b) [
    | inl i ↦ or_right (member (s / 8) (lines_of p)) (eqb (s / 8) b) (eq-eqb (s / 8) b i)
    | inr ne ↦ or_left (member (s / 8) (lines_of p)) (eqb (s / 8) b) (h s (omega arith) m)
  ],
)

passed : (ms : List Bool) (size b : ℕ) (p : Pending) → Listed ms size b p → any_below (λ k. get_or ms (8 * b + k) false) 8 ≡ false → Listed ms size (b + 1) p
passed ms size b p (e, h) none = (e, λ s l m. elim (cases_eq (s / 8) b) [ inl i ↦ no_true _ (none_waits ms b none s i) m | inr ne ↦ h s (omega arith) m ])

pub loop-block-preserved : goal.loop-block-preserved
loop-block-preserved c =
    let ms = c.args.waiting.now in
    let size = c.args.pending.now.size in
    let b = c.loop-block.block in
    elim c.if-any_waits.branch [
      | then-any_waits w ↦ subst (Listed ms size (b + 1)) (sym w.pending-is) (added ms size b c.loop-block.pending w.add.new.self c.loop-block.invariant w.add.ensures.size w.add.ensures.lines)
      | else-any_waits w ↦ subst (Listed ms size (b + 1)) (sym w.pending-is) (passed ms size b c.loop-block.pending c.loop-block.invariant (sym c.any_waits.ensures ∙ w.if-any_waits.false))
    ]
