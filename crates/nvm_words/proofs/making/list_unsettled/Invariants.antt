use Rattle.std.proofs.Common.{◌≡◌, filter}
use Rattle.std.specs.List.{range_with_len}
use Rattle.simulated.specs.Listing.{lines_of}
use Rattle.nvm_words.specs.Cells.{cells_word, is_unsettled_line}
use Rattle.nvm_words.proofs.making.list_unsettled.Given as goal

abbrev pub invariant-loop-line : goal.invariant-loop-line
invariant-loop-line l = (l.pending.size ≡ l.initial.pending.size) × (lines_of l.pending ≡ filter (is_unsettled_line (cells_word l.cells)) (range_with_len 0 l.line))
