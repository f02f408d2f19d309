use Rattle.std.proofs.Common.{ℕ, List, get_or, sym, ap, ◌∙◌}
use Rattle.tile.specs.Laws.{reads_none, made_reads}
use Rattle.tile.proofs.kind.TileKindRecordKind.decode.Goals as goal

pub returns-then-words-ne1 : goal.returns-then-words-ne1
returns-then-words-ne1 c =
    sym (reads_none c.args.words.now (λ t e. c.if-words-ne1.true (ap (λ (u : List ℕ). get_or u 0 0) e)))

pub returns : goal.returns
returns c =
    c.ok.ensures.value
    ∙ made_reads c.args.words.now c.levels_in-levels.result c.new.result c.told-words c.if-words-ne1.false c.fits-words c.levels_in-levels.ensures c.new.ensures
