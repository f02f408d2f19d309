use Rattle.checkpointing.specs.Rows.{place_in}
use Rattle.checkpointing.proofs.Laying.{Laid}
use Rattle.checkpointing.proofs.lay.lay_block.Given as goal

abbrev pub invariant-loop-i : goal.invariant-loop-i
invariant-loop-i g l = Laid (g.S.Source.reads l.source) (place_in l.rows) l.block l.initial.buf l.i l.buf
