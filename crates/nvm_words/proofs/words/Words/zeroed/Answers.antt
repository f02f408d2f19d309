use Rattle.std.proofs.Common.{◌≡◌, ℕ, ◌*◌, List, replicate, Ok, Err, Result, MatchResult, refl, ap, ◌∙◌}
use Rattle.std.specs.List.{range_with_len}
use Rattle.refusal.specs.declared.reason.Refusal.{Refusal}
use Rattle.refusal.specs.declared.reason.Refusal.TheVariants.{NoMemory}
use Rattle.simulated.proofs.Laws.{same_state}
use Rattle.nvm_words.specs.declared.cell.Cell.{Cell}
use Rattle.nvm_words.specs.declared.cell.Cell.TheVariants.{Settled}
use Rattle.nvm_words.specs.declared.words.Words.{Words}
use Rattle.nvm_words.specs.Cells.{cells_word}
use Rattle.nvm_words.specs.Made.{MadeOf, Zeroed}
use Rattle.nvm_words.proofs.Counted.{zero_words, zero_lines}
use Rattle.nvm_words.proofs.words.Words.zeroed.Goals as goal

-- what is made of cells that are settled at zero
by_cases : (units acts : ℕ) (cs : List Cell) (r : Result Words Refusal) → cs ≡ replicate (32 * units) (Settled 0)
    → MatchResult r (λ n. MadeOf units (cells_word cs) acts n) (λ e. e ≡ NoMemory) → MatchResult r (λ n. Zeroed units acts n) (λ e. e ≡ NoMemory)
by_cases units acts cs (Ok n) is h =
    let words = λ (w : ℕ). ap (λ (xs : List Cell). cells_word xs w) is ∙ zero_words (32 * units) w in
    record { state = h.state ∙ same_state _ _ refl refl words refl; lines = h.lines ∙ zero_lines (cells_word cs) words (range_with_len 0 (4 * units)) }
by_cases units acts cs (Err e) is h = h

pub returns : goal.returns
returns c = by_cases c.args.units c.args.acts _ c.made.result (c.in_ok-cells.ensures.items_if_clones_equal (λ y e. e)) c.made.ensures
