-- What a search for the first newline says of the lines, that a cut at each tab gives the fields, and what a look-up among them gives.
use Rattle.std.proofs.Common.{◌≡◌, ℕ, zero, suc, ◌+◌, ◌-◌, ◌<◌, cond, eqb, List, [], ◌∷◌, ◌++◌, length, get_or, take, drop, Bor, Some, None, Option, sym, refl, ap, ◌∙◌, subst, suc-le-suc, add-one, arith}
use lib.Seq.{split_at}
use Rattle.std.specs.Option.{option_map, unwrap_or}
use Rattle.std.specs.List.{AllWithin, HoldsAt, slice_get, slice_split, onto_first}
use Rattle.std.proofs.lemmas.List.{take_all, take_rest}
use Rattle.std.proofs.lemmas.Option.{unwrap_or-slice_get}
use Rattle.lines.specs.Pieces.{begun, parted, lines_of, fields_of}
use Rattle.lines.specs.Splits.{Free}
use Rattle.lines.proofs.Cutting.{cut, uncut_line}

-- no byte below the place is the mark
abbrev pub Passed : ℕ → List ℕ → ℕ → Type 0
Passed m text r = AllWithin (λ c. c ≡ m → ⊥) text 0 r

free_front : (m : ℕ) (text : List ℕ) (r : ℕ) → Passed m text r → Free m (take r text)
free_front m text zero h = tt
free_front m [] (suc r) h = tt
free_front m (c ∷ cs) (suc r) h = (h 0 c (omega arith) (omega arith), free_front m cs r (λ k d low lt. h (suc k) d (omega arith) (suc-le-suc lt)))

-- a newline was found, and ends the first line
pub line_found : (text : List ℕ) (r : ℕ) → (r < length text) × HoldsAt (λ c. c ≡ 10) text r × Passed 10 text r → lines_of text ≡ take r text ∷ lines_of (take (length text - (r + 1)) (drop (r + 1) text))
line_found text r f =
    let rest : take (length text - (r + 1)) (drop (r + 1) text) ≡ drop (suc r) text = take_rest text (r + 1) ∙ ap (λ (n : ℕ). drop n text) (add-one r) in
    let parts : text ≡ take r text ++ (10 ∷ drop (suc r) text) = split_at text r 0 f.0 ∙ ap (λ (x : ℕ). take r text ++ (x ∷ drop (suc r) text)) (f.1 0) in
    ap lines_of parts ∙ (cut 10 [] (take r text) (drop (suc r) text) (free_front 10 text r f.2) ∙ ap (λ (t : List ℕ). take r text ∷ lines_of t) (sym rest))

-- there is none, and the whole text is the last line
pub line_whole : (text : List ℕ) → 0 < length text → Passed 10 text (length text) → lines_of text ≡ text ∷ lines_of []
unfolding parted
line_whole [] some h = absurd (omega arith)
line_whole (c ∷ cs) some h = uncut_line 10 c cs (subst (Free 10) (take_all (length (c ∷ cs)) (c ∷ cs) (omega arith)) (free_front 10 (c ∷ cs) (length (c ∷ cs)) h))

-- the parts between the tabs
begun_onto : (c : ℕ) (ps : List (List ℕ)) → onto_first c ps ≡ begun c ps
begun_onto c [] = refl
begun_onto c (p ∷ ps) = refl

pub split_fields : (line : List ℕ) → slice_split (λ c. eqb c 9) line ≡ fields_of line
unfolding parted
split_fields [] = refl
split_fields (c ∷ cs) =
    ap (λ (ps : List (List ℕ)). cond (eqb c 9) ([] ∷ ps) (onto_first c ps)) (split_fields cs)
    ∙ ap (λ (ps : List (List ℕ)). cond (eqb c 9) ([] ∷ fields_of cs) ps) (begun_onto c (fields_of cs))

-- a field that was found, or the one that stands for a field that is not there
pub field_or : (o : Option (Bor (List ℕ))) (d : Bor (List ℕ)) (fields : List (List ℕ)) (k : ℕ) → option_map (λ x. x.now) o ≡ slice_get fields k → (unwrap_or o d).now ≡ get_or fields k d.now
field_or None d fields k e = ap (λ (p : Option (List ℕ)). unwrap_or p d.now) e ∙ unwrap_or-slice_get fields k d.now
field_or (Some x) d fields k e = ap (λ (p : Option (List ℕ)). unwrap_or p d.now) e ∙ unwrap_or-slice_get fields k d.now
