use Rattle.std.proofs.Common.{rules, tests, leb, ltb, ◌&&◌, ◌∙◌, sym}
use Rattle.std.proofs.lemmas.Iterator.{YieldsList-from_slice, YieldsList-from_map}
use Rattle.std.proofs.lemmas.Iterator.Adapters.{option_map_id}
use Rattle.std.proofs.lemmas.Iterator.Consumers.{min_from_yields_List, YieldsList-from_filter, YieldsList-at}
use Rattle.ringlaws.specs.Layout.{home_block}
use Rattle.checkpointing.specs.declared.rows.Row.{Row}
use Rattle.checkpointing.proofs.Nexts.{next_is}
use Rattle.checkpointing.proofs.rows.Rows.next_block.Goals as goal

pub returns : goal.returns
returns c =
    next_is c.args.self.now c.args.from c.args.limit c.min.result
    (sym (option_map_id c.min.result)
    ∙ min_from_yields_List c.filter.result c.min.result c.min.ensures.ran
    (YieldsList-from_filter _ (λ b. leb c.args.from b && ltb b c.args.limit)
    (YieldsList-at c.filter.ensures.source (YieldsList-from_map _ (λ (row : Row). home_block row.number) (YieldsList-at c.map.ensures.source (YieldsList-from_slice c.args.self.now cc)) c.map.ensures.closure (λ x r q k. search rules)))
    c.filter.ensures.closure (λ x b q k. search (rules, tests))))
