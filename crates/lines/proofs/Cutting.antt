-- Where a mark cuts, the pieces are what stands before it and the pieces of what follows; the laws of lines and fields rest on that.
use Rattle.std.proofs.Common.{◌≡◌, ℕ, ◌<◌, eqb, List, [], ◌∷◌, ◌++◌, length, sym, refl, ap, ◌∙◌, subst, arith}
use Rattle.std.specs.List.{AllByRecursion as All}
use Rattle.std.proofs.lemmas.Bool.{cond_both, cond-true, cond-false, eq-eqb, ne_eqb, eqb-true, eqb-false}
use Rattle.lines.specs.Pieces.{begun, parted, lines_of, fields_of}
use Rattle.lines.specs.Splits.{Free, tabbed, ended, last_or, closed, Lined, Fielded}

-- one step of `parted`, at a mark and at another byte
pub at_mark : (m : ℕ) (last : List (List ℕ)) (cs : List ℕ) → parted m last (m ∷ cs) ≡ [] ∷ parted m last cs
unfolding parted
at_mark m last cs = cond-true (eqb m m) _ _ (eq-eqb m m refl)

pub at_other : (m c : ℕ) (last : List (List ℕ)) (cs : List ℕ) → (c ≡ m → ⊥) → parted m last (c ∷ cs) ≡ begun c (parted m last cs)
unfolding parted
at_other m c last cs h = cond-false (eqb c m) _ _ (ne_eqb c m h)

-- a mark after a piece that is free of it cuts there
pub cut : (m : ℕ) (last : List (List ℕ)) (p t : List ℕ) → Free m p → parted m last (p ++ (m ∷ t)) ≡ p ∷ parted m last t
cut m last [] t h = at_mark m last t
cut m last (c ∷ p) t h = at_other m c last (p ++ (m ∷ t)) h.0 ∙ ap (begun c) (cut m last p t h.1)

-- a line that no newline ends
pub uncut_line : (m c : ℕ) (cs : List ℕ) → Free m (c ∷ cs) → parted m [] (c ∷ cs) ≡ (c ∷ cs) ∷ []
unfolding parted
uncut_line m c [] h = at_other m c [] [] h.0
uncut_line m c (d ∷ ds) h = at_other m c [] (d ∷ ds) h.0 ∙ ap (begun c) (uncut_line m d ds h.1)

-- a line with no tab
pub uncut_field : (m : ℕ) (p : List ℕ) → Free m p → parted m ([] ∷ []) p ≡ p ∷ []
unfolding parted
uncut_field m [] h = refl
uncut_field m (c ∷ cs) h = at_other m c ([] ∷ []) cs h.0 ∙ ap (begun c) (uncut_field m cs h.1)

-- what holds at a mark and at another byte holds
by_byte : (m c : ℕ) (last : List (List ℕ)) (cs : List ℕ) (P : List (List ℕ) → Type 0) → (c ≡ m → P ([] ∷ parted m last cs)) → ((c ≡ m → ⊥) → P (begun c (parted m last cs))) → P (parted m last (c ∷ cs))
unfolding parted
by_byte m c last cs P yes' no' = cond_both (eqb c m) _ _ P (λ e. yes' (eqb-true c m e)) (λ e. no' (eqb-false c m e))

-- no piece holds the mark
begun_free : (m c : ℕ) (ps : List (List ℕ)) → (c ≡ m → ⊥) → All (Free m) ps → All (Free m) (begun c ps)
begun_free m c [] h a = ((h, tt), tt)
begun_free m c (p ∷ ps) h a = ((h, a.0), a.1)

pub parted_free : (m : ℕ) (last : List (List ℕ)) (cs : List ℕ) → All (Free m) last → All (Free m) (parted m last cs)
unfolding parted
parted_free m last [] a = a
parted_free m last (c ∷ cs) a = by_byte m c last cs (All (Free m)) (λ _. (tt, parted_free m last cs a)) (λ h. begun_free m c (parted m last cs) h (parted_free m last cs a))

-- there is a piece where something stands
begun_some : (c : ℕ) (ps : List (List ℕ)) → 0 < length (begun c ps)
begun_some c [] = omega arith
begun_some c (p ∷ ps) = omega arith

pub parted_some : (m c : ℕ) (last : List (List ℕ)) (cs : List ℕ) → 0 < length (parted m last (c ∷ cs))
parted_some m c last cs = by_byte m c last cs (λ ps. 0 < length ps) (λ _. omega arith) (λ _. begun_some c (parted m last cs))

pub some_fields : (m : ℕ) (cs : List ℕ) → 0 < length (parted m ([] ∷ []) cs)
unfolding parted
some_fields m [] = omega arith
some_fields m (c ∷ cs) = parted_some m c ([] ∷ []) cs

-- fields put together again
tabbed_begun : (c : ℕ) (ps : List (List ℕ)) → tabbed (begun c ps) ≡ c ∷ tabbed ps
tabbed_begun c [] = refl
tabbed_begun c (p ∷ []) = refl
tabbed_begun c (p ∷ (q ∷ qs)) = refl

tabbed_open : (ps : List (List ℕ)) → 0 < length ps → tabbed ([] ∷ ps) ≡ 9 ∷ tabbed ps
tabbed_open [] h = absurd (omega arith)
tabbed_open (p ∷ ps) h = refl

pub tabbed_fields : (line : List ℕ) → tabbed (fields_of line) ≡ line
unfolding parted
tabbed_fields [] = refl
tabbed_fields (c ∷ cs) =
    by_byte 9 c ([] ∷ []) cs (λ ps. tabbed ps ≡ c ∷ cs)
    (λ e. tabbed_open (fields_of cs) (some_fields 9 cs) ∙ ap (λ (t : List ℕ). 9 ∷ t) (tabbed_fields cs) ∙ ap (λ (x : ℕ). x ∷ cs) (sym e))
    (λ _. tabbed_begun c (fields_of cs) ∙ ap (λ (t : List ℕ). c ∷ t) (tabbed_fields cs))

pub fields_tabbed : (ps : List (List ℕ)) → 0 < length ps → All (Free 9) ps → fields_of (tabbed ps) ≡ ps
fields_tabbed [] h a = absurd (omega arith)
fields_tabbed (p ∷ []) h a = uncut_field 9 p a.0
fields_tabbed (p ∷ (q ∷ qs)) h a =
    cut 9 ([] ∷ []) p (tabbed (q ∷ qs)) a.0 ∙ ap (λ (ps : List (List ℕ)). p ∷ ps) (fields_tabbed (q ∷ qs) (omega arith) a.1)

pub fielded : (line : List ℕ) → Fielded line (fields_of line)
fielded line =
    record {
      some = some_fields 9 line;
      free = parted_free 9 ([] ∷ []) line (tt, tt);
      whole = tabbed_fields line;
      only = λ others some free e. sym (fields_tabbed others some free) ∙ ap fields_of e;
    }

-- lines put together again
ended_begun : (c : ℕ) (ps : List (List ℕ)) → 0 < length ps → ended (begun c ps) ≡ c ∷ ended ps
ended_begun c [] h = absurd (omega arith)
ended_begun c (p ∷ ps) h = refl

last_same : (c d : ℕ) (cs : List ℕ) → 0 < length cs → last_or c cs ≡ last_or d cs
last_same c d [] h = absurd (omega arith)
last_same c d (x ∷ xs) h = refl

closed_newline : (cs : List ℕ) → closed (10 ∷ cs) ≡ 10 ∷ closed cs
closed_newline cs = refl

closed_alone : (c : ℕ) → (c ≡ 10 → ⊥) → closed (c ∷ []) ≡ c ∷ (10 ∷ [])
closed_alone c h = ap (λ (t : List ℕ). c ∷ t) (cond-false (eqb c 10) [] (10 ∷ []) (ne_eqb c 10 h))

pub ended_lines : (text : List ℕ) → ended (lines_of text) ≡ closed text
unfolding parted
ended_lines [] = refl
ended_lines (c ∷ []) =
    by_byte 10 c [] [] (λ ps. ended ps ≡ closed (c ∷ []))
    (λ e. subst (λ (x : ℕ). 10 ∷ [] ≡ closed (x ∷ [])) (sym e) refl)
    (λ h. sym (closed_alone c h))
ended_lines (c ∷ (d ∷ ds)) =
    by_byte 10 c [] (d ∷ ds) (λ ps. ended ps ≡ c ∷ closed (d ∷ ds))
    (λ e. ap (λ (t : List ℕ). 10 ∷ t) (ended_lines (d ∷ ds)) ∙ ap (λ (x : ℕ). x ∷ closed (d ∷ ds)) (sym e))
    (λ _. ended_begun c (lines_of (d ∷ ds)) (parted_some 10 d [] ds) ∙ ap (λ (t : List ℕ). c ∷ t) (ended_lines (d ∷ ds)))

pub lines_ended : (ps : List (List ℕ)) → All (Free 10) ps → lines_of (ended ps) ≡ ps
unfolding parted
lines_ended [] a = refl
lines_ended (p ∷ ps) a = cut 10 [] p (ended ps) a.0 ∙ ap (λ (qs : List (List ℕ)). p ∷ qs) (lines_ended ps a.1)

pub lined : (text : List ℕ) → Lined text (lines_of text)
lined text =
    let free : All (Free 10) (lines_of text) = parted_free 10 [] text tt in
    record {
      free = free;
      whole = ended_lines text;
      only = λ others a e. sym (lines_ended others a) ∙ (ap lines_of (e ∙ sym (ended_lines text)) ∙ lines_ended (lines_of text) free);
    }
