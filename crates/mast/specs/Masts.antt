-- The mast kind: which unit a mast is written as, and which units read as a mast.
use Rattle.std.specs.Prelude.{◌≡◌, ℕ, ◌^◌, ◌<◌, ◌≤◌, Bool, true, false, cond, List, ◌∷◌, map, length, take, is_some, Some, None, Decides, Option, slice_index, slice_index_or, refl}
use Rattle.std.proofs.Common.{ap, ◌∙◌}
use Rattle.std.specs.List.{range_with_len}
use Rattle.std.specs.Str.{bytes_eq}
use Rattle.layout.specs.Fields.{word_of, field_at}
use Rattle.mast.specs.Names.{is_printed, is_name, mast_refusal, padded, short, padded_whole, padded_name, padded_after}
use Rattle.mast.specs.declared.record.Mast.{Mast}

-- the name of a mast
abbrev pub name_of : Mast → List ℕ
name_of m = take m.size m.bytes

-- the mast that was made of this number and name
pub record Made (number : ℕ) (name : List ℕ) (m : Mast) : Type 0 where
  pub accepted : mast_refusal name ≡ None
  pub same_number : m.number ≡ number
  pub same_name : name_of m ≡ name

-- byte j of a name, zero after it
abbrev pub byte_of : List ℕ → ℕ → ℕ
byte_of name j = slice_index name j

-- Word 0 is 2, word 1 the number, word 2 the length of the name; words 3 to 31 hold eight bytes each.
unfoldable pub name_words : List ℕ → List ℕ
name_words name = map (word_of 8 8 (byte_of name)) (range_with_len 0 29)

abbrev pub mast_words : (number : ℕ) → List ℕ → List ℕ
mast_words number name = 2 ∷ number ∷ length name ∷ name_words name

-- the unit that a mast is written as
abbrev pub mast_unit : Mast → List ℕ
mast_unit m = mast_words m.number (name_of m)

-- Name byte j of a unit: the 8 bits of word 3 + j div 8 from bit 8 × (j mod 8) up.
abbrev pub byte_at : List ℕ → ℕ → ℕ
byte_at unit j = field_at 8 8 3 unit j

unfoldable pub bytes_in : List ℕ → List ℕ
bytes_in unit = map (byte_at unit) (range_with_len 0 232)

-- the name that stands in a unit: as many of its bytes as word 2 says
abbrev pub name_in : List ℕ → List ℕ
name_in unit = take (slice_index unit 2) (bytes_in unit)

-- the mast with this number and name, where it is a mast's name
abbrev pub mast_if : (number : ℕ) (name : List ℕ) (b : Bool) → is_name name ≡ b → Option Mast
mast_if number name true fits =
    Some (record {
      number = number;
      size = length name;
      bytes = padded name;
      whole = padded_whole name (short name fits);
      most = short name fits;
      named = ap is_name (padded_name name) ∙ fits;
      padded = padded_after name;
    })
mast_if number name false fits = None

-- A unit reads as the mast with the number and the name that stand in it, where it is a mast's name and the unit is written
-- from them.
unfoldable pub mast_reads : List ℕ → Option Mast
mast_reads u = cond (bytes_eq u (mast_words (slice_index u 1) (name_in u))) (mast_if (slice_index u 1) (name_in u) (is_name (name_in u)) refl) None

-- how a unit that reads as a mast looks, by its words, ranges and padding alone
pub record MastShape (u : List ℕ) : Type 0 where
  pub kind : slice_index_or u 0 0 ≡ 2
  pub least : 1 ≤ slice_index u 2
  pub most : slice_index_or u 2 0 ≤ 232
  pub printed : (j : ℕ) → j < slice_index u 2 → is_printed (byte_at u j) ≡ true
  pub padding : (j : ℕ) → slice_index u 2 ≤ j → j < 232 → byte_at u j ≡ 0

-- Of all units of 32 words of 64 bits, exactly those of that shape read as a mast.
abbrev pub MastsReadExactly : Type 0
MastsReadExactly =
    (u : List ℕ) → length u ≡ 32 → ((i : ℕ) → slice_index u i < 2 ^ 64) → Decides (is_some (mast_reads u)) (MastShape u)
