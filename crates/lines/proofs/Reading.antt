-- What `parse` makes of a word, as the definition reads it, what its leading zeros and a minus before it do, and that what was written of a number reads as that number.
use Rattle.std.proofs.Common.{◌≡◌, ℕ, zero, ◌+◌, ◌-◌, ◌*◌, ◌^◌, ◌<◌, ◌≤◌, Bool, true, false, cond, eqb, leb, ◌⊎◌, List, [], ◌∷◌, length, get_or, take, drop, min, ℤ, pos, neg_ℤ, negsuc, suc, Some, None, Option, Ok, Err, Result, decimal, sym, refl, ap, ◌∙◌, subst, inl, inr, suc-le-suc, le-mul_of_pos_right, arith, w16, w64, SFits, rules}
use Rattle.std.specs.Option.{SomeIff}
use Rattle.std.specs.List.{AllWithin}
use Rattle.std.proofs.Math.Nat.{min-eq_right, pow-zero, pow-succ', pow-le-pow_right}
use Rattle.std.specs.Result.{OkIff, result_ok}
use Rattle.std.specs.Str.{IsUtf8, all_ascii_digits}
use Rattle.std.specs.Str.Parse.{ParsesUnsigned}
use Rattle.std.specs.Fmt.{signed_decimal}
use Rattle.std.proofs.lemmas.List.{take_rest}
use Rattle.std.proofs.lemmas.Str.{IsUtf8-from_ascii}
use Rattle.std.proofs.lemmas.Str.Ascii.{IsAscii-from_reads}
use Rattle.std.proofs.lemmas.Str.Parse.{IsNumeralModel, numerals_by_fold, tells_all_ascii_digits, digit_at, not_in_digits, parse_plain}
use Rattle.std.proofs.lemmas.Fmt.{digits_decimal, digits_value-decimal, decimal_nonempty}
use Rattle.std.proofs.lemmas.Bool.{cond-true, cond-false, eq-eqb, and_from, and_parts, lt-ltb, ltb-true, le-leb, leb-true, ne_eqb}
use Rattle.lines.specs.Numerals.{value_after, word_after, word_of, raised, lowered, level_of, ReadBack}

-- the same value by the definition and by the call, where both say when there is one
some_same : {T E : Type 0} (o : Option T) (r : Result T E) (P : Type 0) (v : T) → SomeIff o P v → OkIff r P v → result_ok r ≡ o
some_same None (Ok x) P v a b = absurd (a b.0)
some_same None (Err e) P v a b = refl
some_same (Some y) (Ok x) P v a b = ap Some (b.1 ∙ sym a.1)
some_same (Some y) (Err e) P v a b = absurd (b a.0)

some_of : {T : Type 0} (o : Option T) (P : Type 0) (v : T) → SomeIff o P v → P → o ≡ Some v
some_of None P v a is = absurd (a is)
some_of (Some y) P v a is = ap Some a.1

none_of : {T : Type 0} (o : Option T) (P : Type 0) (v : T) → SomeIff o P v → (P → ⊥) → o ≡ None
none_of None P v a isnt = refl
none_of (Some y) P v a isnt = absurd (isnt a.0)

chosen : {T : Type 0} (b : Bool) (P : Type 0) (v : T) → (b ≡ true → P) → (P → b ≡ true) → SomeIff (cond b (Some v) None) P v
chosen true P v to from = (to refl, refl)
chosen false P v to from = λ is. let e : false ≡ true = from is in cc

-- when a word has a number, and which
abbrev Digits : List ℕ → Type 0
Digits ds = all_ascii_digits ds ≡ true

own : IsNumeralModel Digits (value_after 0)
own = numerals_by_fold _ tells_all_ascii_digits value_after (search rules)

digits_utf8 : (ds : List ℕ) → Digits ds → IsUtf8 ds
digits_utf8 ds h = IsUtf8-from_ascii ds (IsAscii-from_reads ds (length ds) (omega arith) (λ k lt. omega (arith, digit_at ds k (own.to ds h) lt)))

word_is : (ds : List ℕ) → SomeIff (word_of ds) (Digits ds × (0 < length ds) × (value_after 0 ds < 2 ^ 64)) (value_after 0 ds)
unfolding word_of word_after
word_is [] = λ w. omega (arith, w.1)
word_is (c ∷ cs) =
    chosen _ _ _ (λ b. ((and_parts _ _ b).0, omega arith, ltb-true _ _ (and_parts _ _ b).1)) (λ w. and_from _ _ w.0 (lt-ltb _ _ w.2))

-- what a call of `parse` gave is the word
pub word_parsed : {E : Type 0} (ds : List ℕ) (r : Result ℕ E) → ParsesUnsigned 64 10 ds r → (get_or ds 0 0 ≡ 43 → ⊥) → result_ok r ≡ word_of ds
word_parsed ds r h no_plus = some_same (word_of ds) r _ _ (word_is ds) (parse_plain own 64 ds r h no_plus)

-- bytes that are no text, or begin with a plus, are no word
not_digits : (ds : List ℕ) → (IsUtf8 ds → ⊥) ⊎ (get_or ds 0 0 ≡ 43) → 0 < length ds → Digits ds → ⊥
not_digits ds h some d = elim h [
  | inl no_text ↦ no_text (digits_utf8 ds d)
  | inr plus ↦ omega (arith, plus, digit_at ds 0 (own.to ds d) some)
]

pub no_word : (ds : List ℕ) → (IsUtf8 ds → ⊥) ⊎ (get_or ds 0 0 ≡ 43) → word_of ds ≡ None
no_word ds h = none_of (word_of ds) _ _ (word_is ds) (λ w. not_digits ds h w.1 w.0)

-- bytes that are too many behind no zero are no word, whatever they are
tens_below : (n : ℕ) (cs : List ℕ) → n * 10 ^ length cs ≤ value_after n cs
tens_below n [] = omega (arith, ap (λ (x : ℕ). n * x) (pow-zero 10))
tens_below n (c ∷ cs) = omega (arith, ap (λ (x : ℕ). n * x) (pow-succ' 10 (length cs)), tens_below (n * 10 + (c - 48)) cs)

digits_above : (c : ℕ) (cs : List ℕ) → (c ≡ 48 → ⊥) → 20 ≤ length cs → Digits (c ∷ cs) → 2 ^ 64 ≤ value_after 0 (c ∷ cs)
digits_above c cs ne long d =
    let k = tells_all_ascii_digits.parts c cs d in
    let some : 1 ≤ c - 48 = omega (arith, k.0, ne) in
    omega (arith, tens_below (0 * 10 + (c - 48)) cs, le-mul_of_pos_right {m = c - 48} (10 ^ length cs) some, pow-le-pow_right {n = 10} (omega arith) long)

pub no_word_over : (ds : List ℕ) → 20 < length ds → (get_or ds 0 0 ≡ 48 → ⊥) → word_of ds ≡ None
no_word_over [] long ne = absurd (omega arith)
no_word_over (c ∷ cs) long ne = none_of (word_of (c ∷ cs)) _ _ (word_is (c ∷ cs)) (λ w. omega (arith, w.2, digits_above c cs ne (omega arith) w.0))

-- leading zeros write nothing
zero_on : (cs : List ℕ) → 0 < length cs → word_of (48 ∷ cs) ≡ word_of cs
unfolding word_of word_after
zero_on [] some = absurd (omega arith)
zero_on (c ∷ cs) some = refl

zero_first : (c : ℕ) (cs : List ℕ) → c ≡ 48 → 0 < length cs → word_of cs ≡ word_of (c ∷ cs)
zero_first c cs e some = sym (zero_on cs some) ∙ ap (λ (x : ℕ). word_of (x ∷ cs)) (sym e)

-- so many bytes are zeros
abbrev pub Zeros : List ℕ → ℕ → Type 0
Zeros ds k = AllWithin (λ c. c ≡ 48) ds 0 k

past_zeros : (ds : List ℕ) (k : ℕ) → k < length ds → Zeros ds k → word_of (drop k ds) ≡ word_of ds
past_zeros [] k lt z = absurd (omega arith)
past_zeros (c ∷ cs) zero lt z = refl
past_zeros (c ∷ cs) (suc k) lt z =
    past_zeros cs k (omega arith) (λ i e low lt. z (suc i) e (omega arith) (suc-le-suc lt))
    ∙ zero_first c cs (z 0 0 (omega arith) (omega arith)) (omega arith)

pub behind_zeros : (ds : List ℕ) (k : ℕ) → k < length ds → Zeros ds k → word_of (take (length ds - k) (drop k ds)) ≡ word_of ds
behind_zeros ds k lt z = ap word_of (take_rest ds k) ∙ past_zeros ds k lt z

first_zero : (ds : List ℕ) → Zeros ds (length ds) → word_of (take 1 ds) ≡ word_of ds
first_zero [] z = refl
first_zero (c ∷ []) z = refl
first_zero (c ∷ (d ∷ ds)) z =
    ap (λ (x : ℕ). word_of (x ∷ [])) (z 0 0 (omega arith) (omega arith) ∙ sym (z 1 0 (omega arith) (omega arith)))
    ∙ (first_zero (d ∷ ds) (λ i e low lt. z (suc i) e (omega arith) (suc-le-suc lt))
    ∙ zero_first c (d ∷ ds) (z 0 0 (omega arith) (omega arith)) (omega arith))

pub one_zero : (ds : List ℕ) (k : ℕ) → k ≡ min (length ds) 1 → Zeros ds (length ds) → word_of (take k ds) ≡ word_of ds
one_zero [] k e z = ap (λ (n : ℕ). word_of (take n [])) e
one_zero (c ∷ cs) k e z = ap (λ (n : ℕ). word_of (take n (c ∷ cs))) (e ∙ min-eq_right (omega arith)) ∙ first_zero (c ∷ cs) z

-- a level by the word behind its minus, or by all of it
pub level_minus : (ds : List ℕ) → get_or ds 0 0 ≡ 45 → 0 < length ds → level_of ds ≡ lowered (word_of (take (length ds - 1) (drop 1 ds)))
unfolding level_of
level_minus [] e some = absurd (omega arith)
level_minus (c ∷ cs) e some = cond-true (eqb c 45) _ _ (eq-eqb c 45 e) ∙ ap (λ (t : List ℕ). lowered (word_of t)) (sym (take_rest (c ∷ cs) 1))

pub level_plain : (ds : List ℕ) → (0 < length ds → get_or ds 0 0 ≡ 45 → ⊥) → level_of ds ≡ raised (word_of ds)
unfolding level_of word_of
level_plain [] ne = refl
level_plain (c ∷ cs) ne = cond-false (eqb c 45) _ _ (ne_eqb c 45 (ne (omega arith)))

-- the number above zero, or below, is there where it fits, as `try_from` has it
abbrev Below : ℕ → Type 0
Below n = SFits w16 (neg_ℤ (pos n))

below_is : (n : ℕ) → SomeIff (lowered (Some n)) (Below n) (neg_ℤ (pos n))
below_is zero = chosen true (Below zero) _ (λ e. record { sfits = omega arith }) (λ f. refl)
below_is (suc n) = chosen (leb (suc n) 32768) (Below (suc n)) _ (λ e. record { sfits = omega (arith, leb-true _ _ e) }) (λ f. le-leb _ _ (omega (arith, f.sfits)))

below_fits : (n : ℕ) → Below n → SFits w64 (pos n)
below_fits zero f = record { sfits = omega arith }
below_fits (suc n) f = record { sfits = omega (arith, f.sfits) }

pub raised_fits : {E : Type 0} (n : ℕ) (r : Result ℤ E) → OkIff r (SFits w16 (pos n)) (pos n) → result_ok r ≡ raised (Some n)
raised_fits n r h = some_same (raised (Some n)) r _ _ (chosen (leb n 32767) (SFits w16 (pos n)) (pos n) (λ e. record { sfits = omega (arith, leb-true _ _ e) }) (λ f. le-leb _ _ (omega (arith, f.sfits)))) h

pub lowered_fits : {E : Type 0} (n : ℕ) (z : ℤ) (r : Result ℤ E) → OkIff r (SFits w16 z) z → z ≡ neg_ℤ (pos n) → result_ok r ≡ lowered (Some n)
lowered_fits n z r h e = some_same (lowered (Some n)) r _ _ (below_is n) (subst (λ (x : ℤ). OkIff r (SFits w16 x) x) e h)

pub ok_is : {T E : Type 0} (q : Result T E) (P : Type 0) (v y : T) → OkIff q P v → Some y ≡ result_ok q → P × (y ≡ v)
ok_is (Ok x) P v y h e = (h.0, let same : y ≡ x = cc in same ∙ h.1)
ok_is (Err x) P v y h e = let no : Some y ≡ None = e in cc

pub lowered_not : {E : Type 0} (n : ℕ) (q : Result ℤ E) → OkIff q (SFits w64 (pos n)) (pos n) → None ≡ result_ok q → lowered (Some n) ≡ None
lowered_not n (Ok x) g e = let no : None ≡ Some x = e in cc
lowered_not n (Err x) g e = none_of (lowered (Some n)) _ _ (below_is n) (λ f. g (below_fits n f))

-- what was written is read back
words_back : (n : ℕ) → n < 2 ^ 64 → word_of (decimal n) ≡ Some n
words_back n h =
    let v : value_after 0 (decimal n) ≡ n = digits_value-decimal own n h in
    some_of (word_of (decimal n)) _ _ (word_is (decimal n)) (digits_decimal own n h, decimal_nonempty n h, omega arith) ∙ ap Some v

levels_back : (z : ℤ) → SFits w16 z → level_of (signed_decimal z) ≡ Some z
unfolding level_of
levels_back (pos n) f =
    let small : n < 2 ^ 15 = f.sfits in
    let n64 : n < 2 ^ 64 = omega arith in
    level_plain (decimal n) (λ some. not_in_digits own (decimal n) 45 (digits_decimal own n n64) (λ h. omega arith) 0 some)
    ∙ (ap raised (words_back n n64) ∙ cond-true _ _ _ (le-leb n 32767 (omega arith)))
levels_back (negsuc n) f =
    let small : n < 2 ^ 15 = f.sfits in
    ap lowered (words_back (suc n) (omega arith)) ∙ cond-true _ _ _ (le-leb (suc n) 32768 (omega arith))

pub read_back : ReadBack
read_back = record { words = words_back; levels = levels_back }
