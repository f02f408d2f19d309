-- Rows that are changed region by region. Assumes nothing.
use Rattle.std.proofs.Common.{◌≡◌, ℕ, ◌+◌, ◌<◌, Bool, true, false, cond, ◌&&◌, ◌||◌, eqb, List, length, get_or, take, sym, refl, ap, ◌∙◌}
use Rattle.std.proofs.lemmas.List.{take_more}
use Rattle.simulated.specs.Lists.{member}
use Rattle.simulated.proofs.Members.{member_push}

-- one region more
pub grown : {X : Type 0} (c d : Bool) (x y z : X) → z ≡ cond c x y → cond d x z ≡ cond (c || d) x y
grown true true x y z e = refl
grown true false x y z e = e
grown false true x y z e = refl
grown false false x y z e = e

-- one region more, of which only the places that pass p are changed
pub grown_by : {X : Type 0} (c d p : Bool) (x y z : X) → z ≡ cond (c && p) x y → cond (d && p) x z ≡ cond ((c || d) && p) x y
grown_by true true true x y z e = refl
grown_by true true false x y z e = e
grown_by true false p x y z e = e
grown_by false true true x y z e = refl
grown_by false true false x y z e = e
grown_by false false p x y z e = e

-- the numbers of one place more of a queue
pub member_more : (b : ℕ) (queue : List ℕ) (i : ℕ) → i < length queue → (member b (take i queue) || eqb b (get_or queue i 0)) ≡ member b (take (i + 1) queue)
member_more b queue i l = sym (ap (member b) (take_more queue i 0 l) ∙ member_push b (get_or queue i 0) (take i queue))
