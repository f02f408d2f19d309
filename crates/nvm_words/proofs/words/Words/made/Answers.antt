use Rattle.std.proofs.Common.{◌/◌, List, length, filter, ap, ◌∙◌, arith}
use Rattle.std.specs.List.{range_with_len}
use Rattle.nvm_words.specs.declared.cell.Cell.{Cell}
use Rattle.nvm_words.specs.Cells.{cells_word, is_unsettled_line}
use Rattle.nvm_words.proofs.Counted.{made_exact}
use Rattle.nvm_words.proofs.words.Words.made.Goals as goal

pub invariant_of-result : goal.invariant_of-result
invariant_of-result c = record {
  cells_long = c.requires;
  holds_long = c.in_ok-holds.ensures.len;
  covers = c.list_unsettled.ensures.size ∙ c.in_ok-pending.ensures.0;
  exact = made_exact c.args.cells.items _ (length c.as_slice.result.now / 8)
      (omega (arith, c.as_slice.ensures.len, c.args.cells.ok.0, c.requires))
      (c.list_unsettled.ensures.lines ∙ ap (λ (cs : List Cell). filter (is_unsettled_line (cells_word cs)) (range_with_len 0 (length c.as_slice.result.now / 8))) c.as_slice.ensures.value);
}
