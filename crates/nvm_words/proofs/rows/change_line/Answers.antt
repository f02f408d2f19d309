use Rattle.std.proofs.Common.{◌+◌, ◌*◌, ◌<◌, length, arith}
use Rattle.nvm_words.proofs.Lines.{within_more, line_put}
use Rattle.nvm_words.proofs.rows.change_line.Goals as goal

pub loop-place-preserved : goal.loop-place-preserved
loop-place-preserved g c = λ makes does.
    let step = c.loop-place in
    let lt : step.place < length step.cell-items = omega (arith, step.auto.cell-items, c.loop-place-test.true) in
    within_more (λ k. makes (8 * c.args.line + k)) _ step.cell-items 0 step.place c.change.new.arg3 (omega arith) lt (step.invariant makes does) (does (8 * c.args.line + step.place) _ _ c.change.ensures)

pub returns : goal.returns
returns g c = λ makes does.
    let step = c.loop-place in
    line_put makes c.args.cells.now step.cell-items (8 * c.args.line) _ step.place (omega arith) c.requires.within step.auto.cell-items c.loop-place-test.false (step.invariant makes does)
