-- Lines that settle to make room. Assumes nothing.
use Rattle.std.proofs.Common.{◌≡◌, ℕ, suc, ◌+◌, ◌-◌, ◌/◌, ◌<◌, ◌≤◌, Bool, true, false, cond, not, ◌&&◌, ◌||◌, eqb, leb, List, [], ◌∷◌, ◌++◌, length, get_or, take, drop, filter, Some, None, Option, Result, IfSome, sym, refl, ap, ◌∙◌, inl, inr, arith, length-append, length-drop, get_or-drop, drop-drop, eqb-true}
use Rattle.std.proofs.lemmas.Bool.{and_parts, not-true}
use Rattle.std.proofs.lemmas.Bool.Decides.{nat_tests}
use Rattle.refusal.specs.declared.reason.Refusal.{Refusal}
use Rattle.device.specs.Devices.{Acted}
use Rattle.device.specs.Pieces.{settled, unsettled, settled_value, present_value, MaySettle}
use Rattle.device.specs.Words.{Word, NvmAct, Store, Flush, Fence, waiting, nvm_makes, nvm_rules}
use Rattle.simulated.specs.Lists.{member}
use Rattle.simulated.specs.Listing.{with_line, without_first}
use Rattle.simulated.specs.Natures.{answers, becomes}
use Rattle.simulated.proofs.Laws.{acted_by}
use Rattle.simulated.proofs.Members.{no_true, at_member}
use Rattle.nvm_words.specs.declared.words.Words.{Words}
use Rattle.nvm_words.specs.Meant.{meant, simulated_nvm, unsettled_lines, line_settled}
use Rattle.nvm_words.proofs.Lines.{member_take}
use Rattle.nvms.specs.Natures.{is_crowded, room_for, limited_makes, surplus_left}

-- the words of the first i lines settled
abbrev pub first_settled : ℕ → List ℕ → ℕ → Word → Word
first_settled i ls w c = cond (member (w / 8) (take i ls)) (settled (present_value c)) c

pub first_none : (ls : List ℕ) (w : ℕ) (c : Word) → c ≡ first_settled 0 ls w c
unfolding member
first_none ls w c = refl

pub drop_first : (ls : List ℕ) (i : ℕ) → without_first (drop i ls) ≡ drop (i + 1) ls
drop_first ls i = without (drop i ls) ∙ drop-drop 1 i ls
  where
    without : (xs : List ℕ) → without_first xs ≡ drop 1 xs
    without [] = refl
    without (x ∷ xs) = refl

pub drop_head : (ls : List ℕ) (i : ℕ) → get_or (drop i ls) 0 0 ≡ get_or ls i 0
drop_head ls i = get_or-drop i ls 0 0 ∙ ap (λ k. get_or ls k 0) (let q : i + 0 ≡ i = omega arith in q)

-- one line more
pub first_more : (ls : List ℕ) (i : ℕ) → i < length ls → (w : ℕ) (c : Word) → line_settled (get_or (drop i ls) 0 0) w (first_settled i ls w c) ≡ first_settled (i + 1) ls w c
first_more ls i lt w c =
    ap (λ l. line_settled l w (first_settled i ls w c)) (drop_head ls i)
    ∙ by_tests (member (w / 8) (take i ls)) (eqb (w / 8) (get_or ls i 0))
    ∙ ap (λ t. cond t (settled (present_value c)) c) (sym (member_take (w / 8) i ls lt))
  where
    by_tests : (s t : Bool) → cond t (settled (present_value (cond s (settled (present_value c)) c))) (cond s (settled (present_value c)) c) ≡ cond (s || t) (settled (present_value c)) c
    by_tests true true = refl
    by_tests true false = refl
    by_tests false true = refl
    by_tests false false = refl

with_length : (xs : List ℕ) (l : ℕ) (t : Bool) → length (cond t xs (xs ++ l ∷ [])) ≤ length xs + 1
with_length xs l true = omega arith
with_length xs l false = simp length-append (omega arith)

without_length : (xs : List ℕ) → length (without_first xs) ≤ length xs - 1
without_length [] = omega arith
without_length (x ∷ xs) = omega arith

-- a list within the limit stays within it after a store
pub few_after : (limit : Option ℕ) (ls : List ℕ) (l : ℕ) → IfSome limit (λ most. 0 < most) → IfSome limit (λ most. length ls ≤ most) → IfSome limit (λ most. length (with_line (room_for limit ls l) l) ≤ most)
few_after None ls l room few = tt
few_after (Some most) ls l room few = by_tests (member l ls) (leb most (length ls)) refl refl
  where
    by_tests : (m b : Bool) → member l ls ≡ m → leb most (length ls) ≡ b → length (with_line (cond (not m && b) (without_first ls) ls) l) ≤ most
    by_tests true b e i =
        let q : with_line ls l ≡ ls = ap (λ t. cond t ls (ls ++ l ∷ [])) e in
        omega (arith, few, ap length q)
    by_tests false true e i = omega (arith, few, room, with_length (without_first ls) l (member l (without_first ls)), without_length ls)
    by_tests false false e i =
        let short : length ls < most = grind (arith, nat_tests) in
        omega (arith, short, with_length ls l (member l ls))

-- and so does a shorter one
pub few_left : (limit : Option ℕ) (ls ks : List ℕ) → length ks ≤ length ls → IfSome limit (λ most. length ls ≤ most) → IfSome limit (λ most. length ks ≤ most)
few_left None ls ks shorter few = tt
few_left (Some most) ls ks shorter few = omega (arith, shorter, few)

-- what is left when a memory is made is within the limit
pub few_made : (limit : Option ℕ) (ls ks : List ℕ) → ks ≡ surplus_left limit ls → IfSome limit (λ most. length ks ≤ most)
few_made None ls ks is = tt
few_made (Some most) ls ks is = omega (arith, ap length is, length-drop (length ls - most) ls)

kept_few : (p : ℕ → Bool) (ls : List ℕ) → length (filter p ls) ≤ length ls
kept_few p [] = omega arith
kept_few p (x ∷ xs) = by_test (p x) (kept_few p xs)
  where
    by_test : (t : Bool) → length (filter p xs) ≤ length xs → length (cond t (x ∷ filter p xs) (filter p xs)) ≤ suc (length xs)
    by_test true h = omega arith
    by_test false h = omega arith

pub kept_either : (t : Bool) (p : ℕ → Bool) (ls : List ℕ) → length (cond t (filter p ls) ls) ≤ length ls
kept_either true p ls = kept_few p ls
kept_either false p ls = omega arith

-- where a store would make too many lines, there is one, and the store is into another
crowd : (limit : Option ℕ) (ls : List ℕ) (l : ℕ) → IfSome limit (λ most. 0 < most) → is_crowded limit ls l ≡ true → (0 < length ls) × (member l ls ≡ false)
crowd None ls l room e = no_true false refl e
crowd (Some most) ls l room e =
    let (new, long) = and_parts (not (member l ls)) (leb most (length ls)) e in
    ((let some : 0 < length ls = grind (arith, nat_tests) in some), not-true (member l ls) new)

-- Making room first does to each word what the store does, or settles it: the line that settles is not the one stored into.
may_settle : (limit : Option ℕ) (ls : List ℕ) (a : NvmAct) (w : ℕ) (c : Word) → IfSome limit (λ most. 0 < most) → MaySettle (nvm_makes a w c) (limited_makes limit ls a w c)
may_settle limit ls (Flush l) w c room = inl refl
may_settle limit ls Fence w c room = inl refl
may_settle limit ls (Store x v) w c room = by_tests (eqb w x) (is_crowded limit ls (x / 8)) (eqb (w / 8) (get_or ls 0 0)) refl refl refl
  where
    apart : eqb w x ≡ true → is_crowded limit ls (x / 8) ≡ true → eqb (w / 8) (get_or ls 0 0) ≡ true → ⊥
    apart same crowded first =
        let (some, new) = crowd limit ls (x / 8) room crowded in
        let is : x / 8 ≡ get_or ls 0 0 = ap (λ n. n / 8) (sym (eqb-true w x same)) ∙ eqb-true (w / 8) (get_or ls 0 0) first in
        no_true (member (x / 8) ls) new (ap (λ n. member n ls) is ∙ at_member ls 0 some)

    by_tests : (e t u : Bool) → eqb w x ≡ e → is_crowded limit ls (x / 8) ≡ t → eqb (w / 8) (get_or ls 0 0) ≡ u
        → MaySettle (cond e (unsettled waiting (settled_value c) v) c)
        (cond e (unsettled waiting (settled_value (cond t (cond u (settled (present_value c)) c) c)) v) (cond t (cond u (settled (present_value c)) c) c))
    by_tests true true true i j k = absurd (apart i j k)
    by_tests true true false i j k = inl refl
    by_tests true false u i j k = inl refl
    by_tests false true true i j k = inr refl
    by_tests false true false i j k = inl refl
    by_tests false false u i j k = inl refl

-- what a memory does by its nature, every memory may do
pub acted : (limit : Option ℕ) (n n' : Words) (a : NvmAct) (r : Result (Unit {0}) Refusal) → IfSome limit (λ most. 0 < most) → r ≡ answers nvm_rules (simulated_nvm n) a
    → simulated_nvm n' ≡ becomes nvm_rules (limited_makes limit (unsettled_lines n) a) (simulated_nvm n) a → Acted nvm_rules (meant n) a r (meant n')
acted limit n n' a r room answer nature =
    acted_by nvm_rules (limited_makes limit (unsettled_lines n) a) (simulated_nvm n) a (simulated_nvm n') r (λ w. may_settle limit (unsettled_lines n) a w ((meant n).piece w) room) answer nature
