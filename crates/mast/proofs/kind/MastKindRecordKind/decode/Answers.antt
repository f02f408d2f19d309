use Rattle.std.proofs.Common.{◌≡◌, ℕ, ◌≤◌, Bool, true, false, List, get_or, length, take, drop, sym, ap, ◌∙◌, subst, arith, rules}
use Rattle.std.proofs.lemmas.Bool.{both_ways, and_parts}
use Rattle.std.proofs.lemmas.List.{take_all, take-append-drop}
use Rattle.std.proofs.lemmas.List.Folds.{list_all-append}
use Rattle.std.specs.List.{list_all}
use Rattle.mast.specs.Names.{is_padding}
use Rattle.mast.specs.declared.record.Mast.{Mast}
use Rattle.mast.specs.Masts.{mast_unit, MastShape, bytes_in}
use Rattle.mast.specs.Units.{bytes_long}
use Rattle.mast.specs.Laws.{reads_none, made_reads, shape_of, padding_of, of_padding}
use Rattle.mast.proofs.kind.MastKindRecordKind.decode.Goals as goal

shaped : (u : List ℕ) (m : Mast) → u ≡ mast_unit m → MastShape u
shaped u m e = subst MastShape (sym e) (shape_of m)

pub returns-then-words-ne2 : goal.returns-then-words-ne2
returns-then-words-ne2 c = sym (reads_none c.args.words.now (λ m e. c.if-words-ne2.true (shaped c.args.words.now m e).kind))

pub returns-in_err-name : goal.returns-in_err-name
returns-in_err-name c =
    let u : List ℕ = c.args.words.now in
    let long : length c.bytes_in-bytes.result ≡ 232 = ap length c.bytes_in-bytes.ensures ∙ bytes_long u in
    c.from_residual.ensures ∙ sym (reads_none u (λ m e. omega (arith, (shaped u m e).most, c.in_err-name.ensures.cases)))

-- what the test of the padding says of the unit
tested : (u bytes rest : List ℕ) (size : ℕ) (b : Bool) → bytes ≡ bytes_in u → rest ≡ drop size bytes → b ≡ list_all is_padding rest → list_all is_padding (drop size (bytes_in u)) ≡ b
tested u bytes rest size b e cut h = ap (λ (xs : List ℕ). list_all is_padding (drop size xs)) (sym e) ∙ ap (list_all is_padding) (sym cut) ∙ sym h

-- where all bytes are zero, so are the first of them
zeros_before : (n : ℕ) (xs : List ℕ) → list_all is_padding xs ≡ true → list_all is_padding (take n xs) ≡ true
zeros_before n xs all =
    (and_parts (list_all is_padding (take n xs)) (list_all is_padding (drop n xs)) (sym (list_all-append is_padding (take n xs) (drop n xs)) ∙ ap (list_all is_padding) (take-append-drop n xs) ∙ all)).0

pub returns-then-not-are_padding : goal.returns-then-not-are_padding
returns-then-not-are_padding c =
    let u : List ℕ = c.args.words.now in
    let size : ℕ = get_or u 2 0 in
    let other : false ≡ list_all is_padding c.in_ok-name.padding.now = grind (arith, take_all, zeros_before) in
    let no' = tested u c.bytes_in-bytes.result c.in_ok-name.padding.now size false c.bytes_in-bytes.ensures c.in_ok-name.ensures.cases.2 other in
    sym (reads_none u (λ m e. both_ways _ no' (of_padding u size (shaped u m e).padding)))

pub returns : goal.returns
returns c =
    let u : List ℕ = c.args.words.now in
    let size : ℕ = get_or u 2 0 in
    let long : length c.bytes_in-bytes.result ≡ 232 = ap length c.bytes_in-bytes.ensures ∙ bytes_long u in
    let most : size ≤ 232 = omega (arith, c.in_ok-name.ensures.cases.0) in
    let zeros : true ≡ list_all is_padding c.in_ok-name.padding.now = search (rules, take_all) in
    let yes' = tested u c.bytes_in-bytes.result c.in_ok-name.padding.now size true c.bytes_in-bytes.ensures c.in_ok-name.ensures.cases.2 zeros in
    let found = c.in_ok-name.ensures.cases.1 ∙ ap (take size) c.bytes_in-bytes.ensures in
    c.ok.ensures.value
    ∙ made_reads u c.in_ok-name.name.now c.new.result c.told-words c.if-words-ne2.false c.fits-words most (padding_of u size yes') found c.new.ensures
