use Rattle.std.proofs.Common.{ℕ, ◌+◌, List, sym, ◌∙◌, subst, arith}
use Rattle.std.proofs.lemmas.Result.{err_from_is_err_and}
use Rattle.ring.proofs.Listing.{wider}
use Rattle.checkpointing.specs.Rows.{place_in}
use Rattle.checkpointing.proofs.Laying.{Laid, laid_none, laid_passed, laid_here}
use Rattle.checkpointing.proofs.lay.lay_block.Goals as goal
use Rattle.checkpointing.proofs.lay.lay_block.Goals.{in-Some+in_ok-words, in_default}

pub loop-i-init : goal.loop-i-init
loop-i-init g c = laid_none (g.S.Source.reads c.args.source.now) (place_in c.args.rows.now) c.args.block c.args.buf.now c.told-buf

pub loop-i-preserved : goal.loop-i-preserved
loop-i-preserved g c =
    let reads = g.S.Source.reads c.args.source.now in
    let place = place_in c.args.rows.now in
    let P : List ℕ → Type 0 = Laid reads place c.args.block c.args.buf.now (c.loop-i.i + 1) in
    elim c.match-place_of.branch [
      | in-Some+in_ok-words w ↦ subst P (sym w.buf-is)
          (laid_here reads place c.args.block c.args.buf.now c.loop-i.i w.in-Some.place w.in_ok-words.words c.loop-i.buf w.fill.new.image
          (sym c.place_of.ensures.place ∙ w.in-Some.is) w.in_ok-words.ensures w.fill.ensures c.loop-i.invariant)
      | in_default w ↦ subst P (sym w.buf-is)
          (laid_passed reads place c.args.block c.args.buf.now c.loop-i.i c.loop-i.buf (sym c.place_of.ensures.place ∙ w.in_default.is) c.loop-i.invariant)
    ]

pub fill-requires : goal.fill-requires
fill-requires g c = let l = c.loop-i.invariant.0 in (omega arith, omega arith)

pub returns-in_err-words : goal.returns-in_err-words
returns-in_err-words g c =
    let p = err_from_is_err_and c.from_residual.result c.from_residual.ensures.1 in
    rw (p.1, p.2) (λ units lie.
    let b = lie _ c.in-Some.place (sym c.place_of.ensures.place ∙ c.in-Some.is) in
    wider (g.S.Source.reads c.args.source.now) (c.in-Some.place + 1 + 1) units c.in_err-words.field-0.0 (omega (arith, b)) c.in_err-words.ensures)

pub returns : goal.returns
returns g c d a k lt = c.loop-i.invariant.1 d a k (omega arith)
