use Rattle.std.proofs.Common.{◌≡◌, ℕ, ◌*◌, ◌/◌, ◌<◌, List, length, filter, Ok, Err, Result, MatchResult, refl, ap, ◌∙◌, arith}
use Rattle.std.specs.List.{range_with_len}
use Rattle.std.specs.Vec.{with_items}
use Rattle.refusal.specs.declared.reason.Refusal.{Refusal}
use Rattle.refusal.specs.declared.reason.Refusal.TheVariants.{NoMemory}
use Rattle.simulated.proofs.Laws.{same_state}
use Rattle.simulated.proofs.Lent.{lent_is}
use Rattle.nvm_words.specs.declared.cell.Cell.{Cell}
use Rattle.nvm_words.specs.declared.mark.Mark.{Mark}
use Rattle.nvm_words.specs.declared.words.Words.{Words}
use Rattle.nvm_words.specs.Marks.{words_in}
use Rattle.nvm_words.specs.Cells.{cells_word, is_unsettled_line}
use Rattle.nvm_words.specs.Made.{units_in, made_word, MadeOf, Made}
use Rattle.nvm_words.proofs.Counted.{made_words, same_lines}
use Rattle.nvm_words.proofs.words.Words.new.Goals as goal

-- what is made of cells that stand for three lists
by_cases : (ss ps : List ℕ) (ms : List Mark) (acts units : ℕ) (cs : List Cell) (r : Result Words Refusal) → units ≡ units_in ss ps ms → ((w : ℕ) → cells_word cs w ≡ made_word ss ps ms w)
    → MatchResult r (λ n. MadeOf units (cells_word cs) acts n) (λ e. e ≡ NoMemory) → MatchResult r (λ n. Made ss ps ms acts n) (λ e. e ≡ NoMemory)
by_cases ss ps ms acts units cs (Ok n) size words h = record {
  state = h.state ∙ same_state _ _ size refl words refl;
  lines = h.lines ∙ same_lines (made_word ss ps ms) (cells_word cs) (range_with_len 0 (4 * units)) words ∙ ap (λ u. filter (is_unsettled_line (made_word ss ps ms)) (range_with_len 0 (4 * u))) size;
}
by_cases ss ps ms acts units cs (Err e) size words h = h

pub returns : goal.returns
returns c =
    let ss = c.args.settled.items in
    let ps = c.args.present.items in
    let ms = c.args.marks.items in
    let units = c.min-units.result / 32 in
    let v = c.in_ok-cells.cells in
    let lent = c.as_mut_slice.result.now in
    let new = c.fill.new.cells in
    let size : units ≡ units_in ss ps ms = omega (arith, c.min-units.ensures, c.min.ensures, c.len.ensures, c.len-2.ensures, c.len-3.ensures, c.args.settled.ok.0, c.args.present.ok.0, c.args.marks.ok.0) in
    let long : length new ≡ 32 * units = omega (arith, c.fill.auto.cells, c.as_mut_slice.ensures.len, c.in_ok-cells.ensures.len) in
    let filled = λ (w : ℕ) (lt : w < length new). c.fill.ensures w (omega (arith, lt, c.fill.auto.cells))
    ∙ ap (λ (xs : List ℕ). words_in xs c.as_slice-2.result.now c.as_slice-3.result.now w) c.as_slice.ensures.value
    ∙ ap (λ (xs : List ℕ). words_in ss xs c.as_slice-3.result.now w) c.as_slice-2.ensures.value
    ∙ ap (λ (xs : List Mark). words_in ss ps xs w) c.as_slice-3.ensures.value in
    by_cases ss ps ms c.args.acts units (with_items v new).items c.made.result size
    (λ w. ap (λ (cs : List Cell). cells_word cs w) (lent_is v lent new c.as_mut_slice.ensures.value c.fill.auto.cells) ∙ made_words ss ps ms new units size long filled w) c.made.ensures
