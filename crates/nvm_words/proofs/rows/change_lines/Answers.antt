use Rattle.std.proofs.Common.{arith}
use Rattle.nvm_words.proofs.Lines.{among_none, among_more, among_all}
use Rattle.nvm_words.proofs.rows.change_lines.Goals as goal

pub loop-line-init : goal.loop-line-init
loop-line-init g c = λ makes does steady. among_none makes c.args.lines.now c.args.cells.now

pub loop-line-preserved : goal.loop-line-preserved
loop-line-preserved g c = λ makes does steady.
    among_more makes c.args.lines.now c.args.cells.now c.loop-line.cells c.change_line.new.cells c.loop-line.line-index (omega arith) steady (c.loop-line.invariant makes does steady) (c.change_line.ensures makes does)

pub returns : goal.returns
returns g c = λ makes does steady. among_all makes c.args.lines.now c.args.cells.now c.loop-line.cells c.loop-line.line-index (omega arith) (c.loop-line.invariant makes does steady)
