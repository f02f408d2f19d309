use Rattle.std.proofs.Common.{◌≡◌, ℕ, ◌<◌, Bool, true, false, not, ◌||◌, eqb, List, [], ◌∷◌, length, get_or, drop, set, sym, refl, ap, ◌∙◌, not-suc-le-zero, arith, eq-eqb}
use Rattle.std.proofs.lemmas.Bool.{eqb-false, and_parts}
use Rattle.simulated.specs.Lists.{member, distinct}
use Rattle.simulated.specs.Listing.{without_first}
use Rattle.simulated.specs.declared.pending.Pending.{Pending}
use Rattle.simulated.proofs.Flags.{flag_within, flagged_rest}
use Rattle.simulated.proofs.pending.Pending.remove_first.Goals as goal

-- the first and the rest of a list
split : (xs : List ℕ) (x : ℕ) → 0 < length xs → x ≡ get_or xs 0 x → xs ≡ x ∷ drop 1 xs
split [] x l e = absurd (not-suc-le-zero l)
split (y ∷ ys) x l e = ap (λ z. z ∷ ys) (sym e)

first_flagged : (flags : List Bool) (xs : List ℕ) (x : ℕ) → ((b : ℕ) → get_or flags b false ≡ member b xs) → 0 < length xs → x ≡ get_or xs 0 x → x < length flags
unfolding member
first_flagged flags xs x h l e = flag_within flags x (h x ∙ ap (member x) (split xs x l e) ∙ ap (λ t. t || member x (drop 1 xs)) (eq-eqb x x refl))

distinct_rest : (xs : List ℕ) (x : ℕ) → distinct xs ≡ true → 0 < length xs → x ≡ get_or xs 0 x → distinct (drop 1 xs) ≡ true
unfolding distinct
distinct_rest xs x d l e = (and_parts (not (member x (drop 1 xs))) (distinct (drop 1 xs)) (sym (ap distinct (split xs x l e)) ∙ d)).1

flags_rest : (flags : List Bool) (xs : List ℕ) (x : ℕ) → ((b : ℕ) → get_or flags b false ≡ member b xs) → distinct xs ≡ true → 0 < length xs → x ≡ get_or xs 0 x
    → (b : ℕ) → get_or (set flags x false) b false ≡ member b (drop 1 xs)
flags_rest flags xs x h d l e = flagged_rest flags x (drop 1 xs) (λ b. h b ∙ ap (member b) (split xs x l e)) (sym (ap distinct (split xs x l e)) ∙ d)

without : (xs : List ℕ) → drop 1 xs ≡ without_first xs
without [] = refl
without (x ∷ xs) = refl

some : (p : Pending) → false ≡ eqb p.queue.len 0 → 0 < length p.queue.items
some p e = let ne = eqb-false p.queue.len 0 (sym e) in omega (arith, p.queue.ok.0, ne)

pub index_mut-requires : goal.index_mut-requires
index_mut-requires c =
    let p = c.args.self.now in
    omega (arith, first_flagged p.flags.items p.queue.items c.remove-b.result p.flagged (some p c.if-not-is_empty.ensures) c.remove-b.ensures.value, p.flags.ok.0)

pub invariant_of-self : goal.invariant_of-self
invariant_of-self c =
    let p = c.args.self.now in
    let e = c.remove-b.ensures in
    let l = some p c.if-not-is_empty.ensures in record { long = p.long; room = omega (arith, e.capacity, p.room); flagged = (λ b. flags_rest p.flags.items p.queue.items c.remove-b.result p.flagged p.once l e.value b ∙ sym (ap (member b) e.items)); once = ap distinct e.items ∙ distinct_rest p.queue.items c.remove-b.result p.once l e.value }
