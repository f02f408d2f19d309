-- The words of a tile's unit and the levels that stand in them.
use Rattle.std.specs.Prelude.{◌≡◌, ℕ, zero, suc, ◌+◌, ◌*◌, ◌/◌, ◌%◌, ◌^◌, ◌<◌, true, List, length, get_or, ℤ, pos, FitsSigned, slice_index, slice_index_or, refl}
use Rattle.std.proofs.Math.Path.{ap, sym}
use Rattle.std.proofs.Common.{◌∙◌, inl, inr, of_z, to_z}
use native.Mathlib.Omega.{arith}
use Rattle.std.specs.Int.{w16}
use Rattle.std.proofs.lemmas.Nat.{mod_below}
use Rattle.std.proofs.lemmas.List.FromFn.{length-map-range_with_len, get_or-map-range_with_len, fill_by_all}
use Rattle.std.proofs.lemmas.List.{ext_get_or, get_or_past}
use Rattle.std.proofs.lemmas.Int.{ints, to_z-of_z, of_z-to_z}
use Rattle.std.proofs.lemmas.Bool.{cases_lt}
use Rattle.layout.specs.Fields.{word_of, field_at}
use Rattle.std.specs.List.{list_all}
use Rattle.layout.proofs.Fields.{fields_come_back, words_come_back, packed_same}
use Rattle.std.proofs.lemmas.List.Sums.{AllPass-from_list_all}
use Rattle.tile.specs.Ranges.{is_level}
use Rattle.tile.specs.Tiles.{level_bits, level_words, tile_words, level_at, levels_in}

-- a level fits 16 bits
pub level_fits : (z : ℤ) → is_level z ≡ true → FitsSigned w16 z
level_fits z h = grind (arith, ints)

bits_small : (levels : List ℤ) → list_all is_level levels ≡ true → (s : ℕ) → level_bits levels s < 2 ^ 16
bits_small levels h s =
    elim (cases_lt s (length levels)) [
      | inl lt ↦ let f : FitsSigned w16 (slice_index_or levels s (pos 0)) = level_fits (slice_index_or levels s (pos 0)) (AllPass-from_list_all is_level levels h s (pos 0) lt) in omega (arith, ints)
      | inr ge ↦ let e : level_bits levels s ≡ 0 = ap (of_z w16) (get_or_past levels s (pos 0) ge) in omega arith
    ]

module _ (column row plan : ℕ) (levels : List ℤ) where
  pub word_at : (k : ℕ) → k < 28 → slice_index (tile_words column row plan levels) (4 + k) ≡ word_of 16 4 (level_bits levels) k
  unfolding level_words
  word_at k lt =
      ap (λ (i : ℕ). slice_index (tile_words column row plan levels) i) (let e : 4 + k ≡ suc (suc (suc (suc k))) = omega arith in e)
      ∙ get_or-map-range_with_len (word_of 16 4 (level_bits levels)) 0 28 k k 0 lt (omega arith)

  pub level_at_lem : list_all is_level levels ≡ true → length levels ≡ 112 → (s : ℕ) → s < 112 → level_at (tile_words column row plan levels) s ≡ slice_index_or levels s (pos 0)
  level_at_lem h long s lt =
      ap (to_z w16) (fields_come_back 16 4 4 28 (level_bits levels) (tile_words column row plan levels) (omega arith) (bits_small levels h) word_at s (omega arith))
      ∙ to_z-of_z w16 (slice_index_or levels s (pos 0)) (level_fits (slice_index_or levels s (pos 0)) (AllPass-from_list_all is_level levels h s (pos 0) (omega arith)))

  -- the levels of a tile's unit are the tile's
  pub levels_back : list_all is_level levels ≡ true → length levels ≡ 112 → levels_in (tile_words column row plan levels) ≡ levels
  unfolding levels_in
  levels_back h long =
      sym (fill_by_all (level_at (tile_words column row plan levels)) levels 112 (pos 0) long (λ s lt. sym (level_at_lem h long s lt)))

  length_words : length (tile_words column row plan levels) ≡ 32
  unfolding level_words
  length_words = ap (λ (n : ℕ). suc (suc (suc (suc n)))) (length-map-range_with_len (word_of 16 4 (level_bits levels)) 0 28)

  module _ (u : List ℕ) (kind : get_or u 0 0 ≡ 1) (first : get_or u 1 0 ≡ column) (second : get_or u 2 0 ≡ row) (third : get_or u 3 0 ≡ plan)
      (rest : (k : ℕ) → k < 28 → slice_index u (4 + k) ≡ word_of 16 4 (level_bits levels) k) where
    at_place : (i : ℕ) → i < 32 → slice_index u i ≡ slice_index (tile_words column row plan levels) i
    at_place zero lt = kind
    at_place (suc zero) lt = first
    at_place (suc (suc zero)) lt = second
    at_place (suc (suc (suc zero))) lt = third
    at_place (suc (suc (suc (suc k)))) lt =
        ap (λ (i : ℕ). slice_index u i) (let e : suc (suc (suc (suc k))) ≡ 4 + k = omega arith in e)
        ∙ rest k (omega arith)
        ∙ sym (word_at k (omega arith))
        ∙ ap (λ (i : ℕ). slice_index (tile_words column row plan levels) i) (let e : 4 + k ≡ suc (suc (suc (suc k))) = omega arith in e)

    -- 32 words are the unit of the fields that stand in them
    pub unit_by : length u ≡ 32 → u ≡ tile_words column row plan levels
    unit_by long = ext_get_or 0 u (tile_words column row plan levels) (long ∙ sym length_words) (λ i lt. at_place i (omega arith))

pub level_in : (u : List ℕ) (s : ℕ) → s < 112 → slice_index_or (levels_in u) s (pos 0) ≡ level_at u s
unfolding levels_in
level_in u s lt = get_or-map-range_with_len (level_at u) 0 112 s s (pos 0) lt (omega arith)

field_small : (u : List ℕ) (s : ℕ) → field_at 16 4 4 u s < 2 ^ 16
field_small u s = mod_below (slice_index u (4 + s / 4) / 2 ^ (16 * (s % 4))) (2 ^ 16) (omega arith)

bits_in : (u : List ℕ) (s : ℕ) → s < 112 → level_bits (levels_in u) s ≡ field_at 16 4 4 u s
bits_in u s lt = ap (of_z w16) (level_in u s lt) ∙ of_z-to_z w16 (field_at 16 4 4 u s) (field_small u s)

-- 32 words of 64 bits, the first of them 1, are the unit of the fields that stand in them
pub unit_whole : (u : List ℕ) → length u ≡ 32 → slice_index u 0 ≡ 1 → ((i : ℕ) → slice_index u i < 2 ^ 64) → u ≡ tile_words (slice_index u 1) (slice_index u 2) (slice_index u 3) (levels_in u)
unit_whole u long kind fits =
    unit_by (slice_index u 1) (slice_index u 2) (slice_index u 3) (levels_in u) u kind refl refl refl
    (λ k lt.
    sym (words_come_back 16 4 4 u k (fits (4 + k)))
    ∙ packed_same 16 4 (λ i. field_at 16 4 4 u (k * 4 + i)) (λ i. level_bits (levels_in u) (k * 4 + i)) (λ i l. sym (bits_in u (k * 4 + i) (omega arith))))
    long
