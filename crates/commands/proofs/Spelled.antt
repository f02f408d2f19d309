-- A field that was compared with words one by one, as the definitions compare it.
use Rattle.std.proofs.Common.{◌≡◌, ℕ, Bool, cond, List, [], ◌∷◌, Some, Option, eqb, refl, sym, ap, ◌∙◌}
use Rattle.std.specs.Cmp.Lexicographic.{pointwise}
use Rattle.std.specs.List.{find}
use Rattle.std.specs.Str.{bytes_eq}
use Rattle.std.proofs.lemmas.Slice.Eq.{slice_eq-Decides, bytes_eq-Decides}
use Rattle.std.proofs.lemmas.Bool.Decides.{same_from_decides, Decides-eqb}
use Rattle.commands.specs.declared.verb.Verb.{Verb}
use Rattle.commands.specs.Verbs.{spelling, written_so}

pub same_test : (field word : List ℕ) → pointwise eqb field word ≡ bytes_eq field word
same_test field word = same_from_decides _ _ (slice_eq-Decides Decides-eqb field word _ refl) (bytes_eq-Decides field word)

pub told : (field word w : List ℕ) (b : Bool) → w ≡ word → b ≡ pointwise eqb field w → bytes_eq field word ≡ b
told field word w b is h = sym (h ∙ (ap (pointwise eqb field) is ∙ same_test field word))

-- the first of some verbs whose spelling is the field
pub first_written : (field : List ℕ) (vs : List Verb) → find (λ v. pointwise eqb field (spelling v)) vs ≡ written_so field vs
first_written field [] = refl
first_written field (v ∷ vs) =
    ap (λ (b : Bool). cond b (Some v) (find (λ w. pointwise eqb field (spelling w)) vs)) (same_test field (spelling v))
    ∙ ap (λ (o : Option Verb). cond (bytes_eq field (spelling v)) (Some v) o) (first_written field vs)
