-- The names of masts, and why a name is refused. Assumes nothing.
use Rattle.std.specs.Prelude.{◌≡◌, ℕ, zero, suc, ◌+◌, ◌-◌, ◌≤◌, Bool, true, cond, ◌&&◌, List, ◌++◌, length, take, replicate, Some, None, Option, ◌==◌, nat_le, slice_index, refl}
use Rattle.std.proofs.Common.{ap, ◌∙◌, arith}
use Rattle.std.proofs.lemmas.List.{length-append, length-replicate, take_at, get_or-append_right}
use Rattle.std.proofs.lemmas.Bool.{and_parts, leb-true}
use Rattle.refusal.specs.declared.reason.Refusal.{Refusal}
use Rattle.refusal.specs.declared.reason.Refusal.TheVariants.{NameLength, NameByte}
use Rattle.std.specs.List.{list_all}

-- printed ASCII
abbrev pub is_printed : ℕ → Bool
is_printed byte = nat_le 0x20 byte && nat_le byte 0x7E

-- what stands after a name
abbrev pub is_padding : ℕ → Bool
is_padding byte = byte == 0

-- the length of a name
abbrev pub is_length : ℕ → Bool
is_length n = nat_le 1 n && nat_le n 232

abbrev pub is_name : List ℕ → Bool
is_name name = is_length (length name) && list_all is_printed name

-- Why there is no mast of this name, if there is none: first the length, then the bytes.
abbrev pub mast_refusal : List ℕ → Option Refusal
mast_refusal name = cond (is_length (length name)) (cond (list_all is_printed name) None (Some NameByte)) (Some NameLength)

-- a name, with zeros up to 232 bytes
abbrev pub padded : List ℕ → List ℕ
padded name = name ++ replicate (232 - length name) 0

-- What the type of masts asks of padded names.
pub short : (name : List ℕ) → is_name name ≡ true → length name ≤ 232
short name h = leb-true (length name) 232 (and_parts (nat_le 1 (length name)) (nat_le (length name) 232) (and_parts (is_length (length name)) (list_all is_printed name) h).0).1

pub padded_whole : (name : List ℕ) → length name ≤ 232 → length (padded name) ≡ 232
padded_whole name le =
    length-append name (replicate (232 - length name) 0) ∙ ap (λ (n : ℕ). length name + n) (length-replicate (232 - length name) 0) ∙ (omega arith)

pub padded_name : (name : List ℕ) → take (length name) (padded name) ≡ name
padded_name name = take_at name (replicate (232 - length name) 0) (length name) refl

pub zeros : (n k : ℕ) → ◌≡◌ {A = ℕ} (slice_index (replicate n 0) k) 0
zeros zero k = refl
zeros (suc n) zero = refl
zeros (suc n) (suc k) = zeros n k

pub padded_after : (name : List ℕ) (j : ℕ) → length name ≤ j → slice_index (padded name) j ≡ 0
padded_after name j le =
    get_or-append_right name (replicate (232 - length name) 0) (length name) j 0 refl le ∙ zeros (232 - length name) (j - length name)
