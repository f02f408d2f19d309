-- Flags that say which numbers a list holds. Assumes nothing.
use Rattle.std.proofs.Common.{◌≡◌, ℕ, zero, suc, ◌+◌, ◌<◌, ◌≤◌, Bool, true, false, cond, not, ◌||◌, eqb, List, [], ◌∷◌, ◌++◌, length, get_or, take, set, replicate, sym, refl, ap, ◌∙◌, inl, inr, not-suc-le-zero, arith, eq-eqb}
use Rattle.std.proofs.lemmas.Bool.{and_parts, not-true, cases_eq, cases_lt, ne_eqb}
use Rattle.std.proofs.lemmas.List.{get_or-set_same, get_or-set_other, get_or_past, take_more}
use Rattle.simulated.specs.Lists.{member, distinct}
use Rattle.simulated.specs.Listing.{lines_of}
use Rattle.simulated.specs.declared.pending.Pending.{Pending}
use Rattle.simulated.proofs.Members.{no_true, at_member, member_push, or_true, or_false}

-- a flag that is set lies within the row
pub flag_within : (flags : List Bool) (b : ℕ) → get_or flags b false ≡ true → b < length flags
flag_within flags b e = elim (cases_lt b (length flags)) [ inl l ↦ l | inr far ↦ no_true _ (get_or_past flags b false far) e ]

-- how many flags are set
trues : List Bool → ℕ
trues [] = 0
trues (b ∷ bs) = cond b 1 0 + trues bs

trues_most : (bs : List Bool) → trues bs ≤ length bs
unfolding trues
trues_most [] = omega arith
trues_most (true ∷ bs) = let h = trues_most bs in omega arith
trues_most (false ∷ bs) = let h = trues_most bs in omega arith

-- where one is not set, not all are
trues_room : (bs : List Bool) (i : ℕ) → i < length bs → get_or bs i false ≡ false → trues bs < length bs
unfolding trues
trues_room [] i l e = absurd (not-suc-le-zero l)
trues_room (true ∷ bs) zero l e = no_true _ e refl
trues_room (false ∷ bs) zero l e = let h = trues_most bs in omega arith
trues_room (true ∷ bs) (suc i) l e = let h = trues_room bs i (omega arith) e in omega arith
trues_room (false ∷ bs) (suc i) l e = let h = trues_room bs i (omega arith) e in omega arith

trues_unset : (bs : List Bool) (i : ℕ) → get_or bs i false ≡ true → trues (set bs i false) + 1 ≡ trues bs
unfolding trues
trues_unset [] i e = no_true _ refl e
trues_unset (true ∷ bs) zero e = omega arith
trues_unset (false ∷ bs) zero e = no_true _ refl e
trues_unset (true ∷ bs) (suc i) e = let h = trues_unset bs i e in omega arith
trues_unset (false ∷ bs) (suc i) e = let h = trues_unset bs i e in omega arith

trues_zero : (bs : List Bool) → ((i : ℕ) → get_or bs i false ≡ false) → trues bs ≡ 0
unfolding trues
trues_zero [] h = refl
trues_zero (true ∷ bs) h = no_true _ (h 0) refl
trues_zero (false ∷ bs) h = let k = trues_zero bs (λ i. h (suc i)) in omega arith

-- the flags of the list without its first number
pub flagged_rest : (flags : List Bool) (x : ℕ) (xs : List ℕ) → ((b : ℕ) → get_or flags b false ≡ member b (x ∷ xs)) → distinct (x ∷ xs) ≡ true
    → (b : ℕ) → get_or (set flags x false) b false ≡ member b xs
unfolding member distinct
flagged_rest flags x xs h d b =
    let (new, rest) = and_parts (not (member x xs)) (distinct xs) d in
    let on : get_or flags x false ≡ true = h x ∙ ap (λ t. t || member x xs) (eq-eqb x x refl) in
    elim (cases_eq b x) [
      | inl e ↦ ap (λ k. get_or (set flags x false) k false) e ∙ get_or-set_same flags x false false (flag_within flags x on) ∙ sym (ap (λ k. member k xs) e ∙ not-true (member x xs) new)
      | inr ne ↦ get_or-set_other flags x b false false ne ∙ h b ∙ ap (λ t. t || member b xs) (ne_eqb b x ne)
    ]

-- as many flags as numbers
trues_members : (queue : List ℕ) (flags : List Bool) → ((b : ℕ) → get_or flags b false ≡ member b queue) → distinct queue ≡ true → trues flags ≡ length queue
unfolding member distinct
trues_members [] flags h d = trues_zero flags h
trues_members (x ∷ xs) flags h d =
    let (new, rest) = and_parts (not (member x xs)) (distinct xs) d in
    let on : get_or flags x false ≡ true = h x ∙ ap (λ t. t || member x xs) (eq-eqb x x refl) in
    omega (arith, trues_members xs (set flags x false) (flagged_rest flags x xs h d) rest, trues_unset flags x on)

-- there is room for a number that is not yet listed
pub room_for : (queue : List ℕ) (flags : List Bool) (b : ℕ) → ((x : ℕ) → get_or flags x false ≡ member x queue) → distinct queue ≡ true
    → b < length flags → member b queue ≡ false → length queue < length flags
room_for queue flags b h d lt free = omega (arith, trues_members queue flags h d, trues_room flags b lt (h b ∙ free))

-- the flags of a list with one more number
pub flagged_push : (flags : List Bool) (queue : List ℕ) (b : ℕ) → b < length flags → ((x : ℕ) → get_or flags x false ≡ member x queue)
    → (x : ℕ) → get_or (set flags b true) x false ≡ member x (queue ++ b ∷ [])
flagged_push flags queue b lt h x = elim (cases_eq x b) [
  | inl e ↦ ap (λ k. get_or (set flags b true) k false) e ∙ get_or-set_same flags b true false lt ∙ sym (member_push x b queue ∙ ap (λ t. member x queue || t) (eq-eqb x b e) ∙ or_true (member x queue))
  | inr ne ↦ get_or-set_other flags b x true false ne ∙ h x ∙ sym (member_push x b queue ∙ ap (λ t. member x queue || t) (ne_eqb x b ne) ∙ or_false (member x queue))
]

-- what is listed lies within the row of flags
pub listed_within : (flags : List Bool) (queue : List ℕ) → ((x : ℕ) → get_or flags x false ≡ member x queue) → (k : ℕ) → k < length queue → get_or queue k 0 < length flags
listed_within flags queue h k l = flag_within flags (get_or queue k 0) (h (get_or queue k 0) ∙ at_member queue k l)

-- what is listed lies below the size, as the list is lent
pub listed_below : (p : Pending) (lines : List ℕ) → lines ≡ lines_of p → (k : ℕ) → k < length lines → get_or lines k 0 < p.size
listed_below p lines is k l =
    let e : get_or lines k 0 ≡ get_or p.queue.items k 0 = ap (λ (xs : List ℕ). get_or xs k 0) is in
    let long : length lines ≡ length p.queue.items = ap length is in
    omega (arith, listed_within p.flags.items p.queue.items p.flagged k (omega (arith, long)), p.long, p.flags.ok.0, e)

pub none_flagged : (n b : ℕ) → get_or (replicate n false) b false ≡ false
none_flagged zero b = refl
none_flagged (suc n) zero = refl
none_flagged (suc n) (suc b) = none_flagged n b

-- each of the first i numbers of the queue has the flag that f has for it, one number more
pub reflag_more : (base flags : List Bool) (queue : List ℕ) (f : ℕ → Bool) (i : ℕ) → i < length queue → get_or queue i 0 < length flags
    → ((b : ℕ) → get_or flags b false ≡ cond (member b (take i queue)) (f b) (get_or base b false))
    → (b : ℕ) → get_or (set flags (get_or queue i 0) (f (get_or queue i 0))) b false ≡ cond (member b (take (i + 1) queue)) (f b) (get_or base b false)
reflag_more base flags queue f i l lt h b = elim (cases_eq b (get_or queue i 0)) [
  | inl e ↦ ap (λ k. get_or (set flags (get_or queue i 0) (f (get_or queue i 0))) k false) e ∙ get_or-set_same flags (get_or queue i 0) (f (get_or queue i 0)) false lt ∙ ap f (sym e)
      ∙ sym (ap (λ t. cond t (f b) (get_or base b false)) (more ∙ ap (λ t. member b (take i queue) || t) (eq-eqb b (get_or queue i 0) e) ∙ or_true (member b (take i queue))))
  | inr ne ↦ get_or-set_other flags (get_or queue i 0) b (f (get_or queue i 0)) false ne ∙ h b
      ∙ sym (ap (λ t. cond t (f b) (get_or base b false)) (more ∙ ap (λ t. member b (take i queue) || t) (ne_eqb b (get_or queue i 0) ne) ∙ or_false (member b (take i queue))))
]
  where
    more : member b (take (i + 1) queue) ≡ (member b (take i queue) || eqb b (get_or queue i 0))
    more = ap (member b) (take_more queue i 0 l) ∙ member_push b (get_or queue i 0) (take i queue)
