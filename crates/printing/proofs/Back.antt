-- What was printed of a record reads back: no field holds a tab, so the fields come apart, and each number is read as it was.
use Rattle.std.proofs.Common.{◌≡◌, ℕ, suc, ◌^◌, ◌<◌, true, not, eqb, leb, List, [], ◌∷◌, length, get_or, replicate, ℤ, pos, negsuc, Some, codes, decimal, refl, ap, ◌∙◌, subst, arith, w16, SFits}
use Rattle.std.specs.Str.Parse.{AllDigits}
use Rattle.std.specs.Fmt.{signed_decimal}
use Rattle.std.proofs.lemmas.Fmt.{decimal_is_IsNumeral}
use Rattle.std.proofs.lemmas.Str.Parse.{digit_from_value}
use Rattle.std.proofs.lemmas.Bool.{and_parts, and_from, cond-true, leb-true, le-leb, eqb-false, not-true}
use Rattle.layout.specs.Lists.{each}
use Rattle.lines.specs.Splits.{Free, tabbed}
use Rattle.lines.proofs.Cutting.{fields_tabbed}
use Rattle.lines.proofs.Reading.{read_back}
use Rattle.tile.specs.Ranges.{is_level}
use Rattle.tile.specs.declared.record.Tile.{Tile}
use Rattle.mast.specs.Names.{is_printed, is_length}
use Rattle.mast.specs.Masts.{name_of}
use Rattle.mast.specs.declared.record.Mast.{Mast}
use Rattle.joined.specs.declared.record.Joined.TheVariants as joined
use Rattle.commands.specs.Verbs.{verb_of}
use Rattle.commands.specs.Commands.{asked_by, command_of, set, tile, mast}
use Rattle.commands.specs.Records.{Fulfils}
use Rattle.printing.specs.Texts.{first_level, tile_fields, mast_fields}
use Rattle.printing.specs.Laws.{numbered, RecordsReadBack}

-- no field holds a tab
word_free : (bs : List ℕ) → each (λ c. not (eqb c 9)) bs ≡ true → Free 9 bs
word_free [] h = tt
word_free (c ∷ cs) h = let p = and_parts (not (eqb c 9)) (each (λ c. not (eqb c 9)) cs) h in (eqb-false c 9 (not-true (eqb c 9) p.0), word_free cs p.1)

digits_free : (ds : List ℕ) → AllDigits 10 ds → Free 9 ds
digits_free [] h = tt
digits_free (c ∷ cs) h = ((λ e. omega (arith, digit_from_value c h.0)), digits_free cs h.1)

number_free : (n : ℕ) → n < 2 ^ 64 → Free 9 (decimal n)
number_free n h = digits_free (decimal n) (decimal_is_IsNumeral n h).0.1

level_free : (z : ℤ) → SFits w16 z → Free 9 (signed_decimal z)
level_free (pos n) f = let small : n < 2 ^ 15 = f.sfits in number_free n (omega arith)
level_free (negsuc n) f = let small : n < 2 ^ 15 = f.sfits in ((λ e. omega arith), number_free (suc n) (omega arith))

name_free : (name : List ℕ) → each is_printed name ≡ true → Free 9 name
name_free [] h = tt
name_free (c ∷ cs) h =
    let p = and_parts (is_printed c) (each is_printed cs) h in
    let q = and_parts (leb 0x20 c) (leb c 0x7E) p.0 in
    ((λ e. omega (arith, leb-true 0x20 c q.0)), name_free cs p.1)

-- a level fits 16 bits, and a tile's first sample is a level
level_fits : (z : ℤ) → is_level z ≡ true → SFits w16 z
level_fits (pos n) h = record { sfits = omega (arith, leb-true n 500 h) }
level_fits (negsuc n) h = record { sfits = omega (arith, leb-true n 1999 (and_parts (leb n 1999) true h).0) }

first_fits : (levels : List ℤ) → length levels ≡ 112 → each is_level levels ≡ true → SFits w16 (get_or levels 0 (pos 0))
first_fits [] long h = absurd (omega arith)
first_fits (z ∷ zs) long h = level_fits z (and_parts (is_level z) (each is_level zs) h).0

masts_back : (r : ℕ) (m : Mast) → r < 2 ^ 64 → m.number < 2 ^ 64 → command_of (tabbed (numbered r (mast_fields m))) ≡ Some (set r (mast m.number (name_of m)))
unfolding verb_of
masts_back r m hr hn =
    let printed = (and_parts (is_length (length (name_of m))) (each is_printed (name_of m)) m.named).1 in
    ap asked_by (fields_tabbed (numbered r (mast_fields m)) (omega arith) (word_free (codes "mast") refl, (number_free r hr, (number_free m.number hn, (name_free (name_of m) printed, tt)))))
    ∙ rw (read_back.words r hr, read_back.words m.number hn)

masts_made_lem : (m : Mast) → Fulfils (mast m.number (name_of m)) (joined.Mast m)
masts_made_lem m =
    let p = and_parts (is_length (length (name_of m))) (each is_printed (name_of m)) m.named in
    record { accepted = cond-true _ _ _ p.0 ∙ cond-true _ _ _ p.1; same_number = refl; same_name = refl }

tiles_back : (r : ℕ) (t : Tile) → r < 2 ^ 64 → t.plan < 2 ^ 64 → command_of (tabbed (numbered r (tile_fields t))) ≡ Some (set r (tile t.column t.row t.plan (first_level t)))
unfolding verb_of
tiles_back r t hr hp =
    let fits = first_fits t.levels t.whole t.ranged in
    let hc : t.column < 2 ^ 64 = omega (arith, t.across) in
    let hw : t.row < 2 ^ 64 = omega (arith, t.down) in
    ap asked_by (fields_tabbed (numbered r (tile_fields t)) (omega arith) (word_free (codes "tile") refl, (number_free r hr, (number_free t.column hc, (number_free t.row hw, (number_free t.plan hp, (level_free (first_level t) fits, tt)))))))
    ∙ rw (read_back.words r hr, read_back.words t.column hc, read_back.words t.row hw, read_back.words t.plan hp, read_back.levels (first_level t) fits)

tiles_made_lem : (t : Tile) → t.levels ≡ replicate 112 (first_level t) → Fulfils (tile t.column t.row t.plan (first_level t)) (joined.Tile t)
tiles_made_lem t e =
    let place = and_from (leb t.column 65535) (leb t.row 65535) (le-leb t.column 65535 t.across) (le-leb t.row 65535 t.down) in
    let ranged = subst (λ (ls : List ℤ). each is_level ls ≡ true) e t.ranged in
    record {
      accepted = cond-true _ _ _ place ∙ cond-true _ _ _ ranged;
      same_column = refl;
      same_row = refl;
      same_plan = refl;
      same_levels = e;
    }

pub printed_reads_back : RecordsReadBack
printed_reads_back = record { masts = masts_back; masts_made = masts_made_lem; tiles = tiles_back; tiles_made = tiles_made_lem }
