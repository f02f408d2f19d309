use Rattle.std.proofs.Common.{◌≡◌, ◌+◌, ◌-◌, ◌*◌, take, drop, ap, ◌∙◌, rules, tests, arith, length-drop, get_or-drop}
use Rattle.std.specs.List.{list_any}
use Rattle.std.proofs.lemmas.Iterator.{YieldsList-from_slice}
use Rattle.std.proofs.lemmas.Iterator.Search.{any_from_yields_List}
use Rattle.device.specs.Pieces.{is_unsettled}
use Rattle.nvm_words.specs.declared.cell.Cell.{Cell}
use Rattle.nvm_words.specs.declared.cell.Cell.TheVariants.{Settled}
use Rattle.nvm_words.specs.Cells.{cell_word}
use Rattle.nvm_words.proofs.Any.{any_listed, any_same}
use Rattle.nvm_words.proofs.rows.any_unsettled.Goals as goal

pub returns : goal.returns
returns c =
    let cs = c.args.cells.now in
    let l = c.args.line in
    let p = λ (d : Cell). is_unsettled (cell_word d) in
    let passed = any_from_yields_List p _ _ c.any.result c.any.ensures.ran (YieldsList-from_slice (take (8 * l + 8 - 8 * l) (drop (8 * l) cs)) c.iter.ensures.rest) (λ x b q k. search (rules, tests)) in
    passed
    ∙ ap (λ n. list_any p (take n (drop (8 * l) cs))) (let q : 8 * l + 8 - 8 * l ≡ 8 = omega arith in q)
    ∙ any_listed p (drop (8 * l) cs) (Settled 0) 8 (omega (arith, length-drop (8 * l) cs, c.requires))
    ∙ any_same _ _ 8 (λ k lt. ap p (get_or-drop (8 * l) cs k (Settled 0)))
