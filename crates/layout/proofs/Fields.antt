-- Fields and words give each other back: by induction on the number of fields in a word, for every width.
use Rattle.std.proofs.Common.{◌≡◌, ℕ, zero, suc, ◌+◌, ◌*◌, ◌/◌, ◌%◌, ◌^◌, ◌<◌, get_or, sym, refl, ap, ◌∙◌, add_comm, mul-suc, arith}
use Rattle.std.proofs.lemmas.Nat.{shr-shr, shr_below, div-add-mod', div-mul-add, mod-mul-add, mod_below, div_below}
use Rattle.layout.specs.Fields.{field, packed, field_at, FieldsComeBack, WordsComeBack}

field_zero : (width word : ℕ) → field width word 0 ≡ word % 2 ^ width
field_zero width word =
    let none : width * 0 ≡ 0 = omega arith in
    let whole : word / 1 ≡ word = omega arith in
    ap (λ (b : ℕ). word / 2 ^ b % 2 ^ width) none ∙ ap (λ (w : ℕ). w % 2 ^ width) whole

-- a field but the first is a field of the word without the first
field_suc : (width word i : ℕ) → field width word (suc i) ≡ field width (word / 2 ^ width) i
field_suc width word i =
    ap (λ (b : ℕ). word / 2 ^ b % 2 ^ width) (let e : width * suc i ≡ width + width * i = mul-suc width i ∙ add_comm (width * i) width in e)
    ∙ ap (λ (w : ℕ). w % 2 ^ width) (sym (shr-shr word width (width * i)))

swapped : (a r b : ℕ) → a + r * b ≡ r * b + a
swapped a r b = add_comm a (r * b)

field_packed : (width n : ℕ) (f : ℕ → ℕ) → ((j : ℕ) → f j < 2 ^ width) → (i : ℕ) → i < n → field width (packed width f n) i ≡ f i
field_packed width zero f small i lt = absurd (omega arith)
field_packed width (suc n) f small zero lt =
    let rest : ℕ = packed width (λ i. f (suc i)) n in
    field_zero width (f 0 + rest * 2 ^ width)
    ∙ ap (λ (w : ℕ). w % 2 ^ width) (swapped (f 0) rest (2 ^ width))
    ∙ mod-mul-add rest (2 ^ width) (f 0) (small 0)
field_packed width (suc n) f small (suc i) lt =
    let rest : ℕ = packed width (λ i. f (suc i)) n in
    field_suc width (f 0 + rest * 2 ^ width) i
    ∙ ap (λ (w : ℕ). field width w i)
    (ap (λ (w : ℕ). w / 2 ^ width) (swapped (f 0) rest (2 ^ width)) ∙ div-mul-add rest (2 ^ width) (f 0) (small 0))
    ∙ field_packed width n (λ i. f (suc i)) (λ j. small (suc j)) i (omega arith)

pub packed_same : (width n : ℕ) (f g : ℕ → ℕ) → ((i : ℕ) → i < n → f i ≡ g i) → packed width f n ≡ packed width g n
packed_same width zero f g same = refl
packed_same width (suc n) f g same =
    let a : f 0 ≡ g 0 = same 0 (omega arith) in
    let b : packed width (λ i. f (suc i)) n ≡ packed width (λ i. g (suc i)) n =
    packed_same width n (λ i. f (suc i)) (λ i. g (suc i)) (λ i lt. same (suc i) (omega arith)) in
    ap (λ (x : ℕ). x + packed width (λ i. f (suc i)) n * 2 ^ width) a ∙ ap (λ (x : ℕ). g 0 + x * 2 ^ width) b

packed_fields : (width n word : ℕ) → word < 2 ^ (width * n) → packed width (field width word) n ≡ word
packed_fields width zero word lt =
    let e : 2 ^ (width * 0) ≡ 1 = ap (λ (b : ℕ). 2 ^ b) (let z : width * 0 ≡ 0 = omega arith in z) in omega arith
packed_fields width (suc n) word lt =
    let fits : word < 2 ^ (width * n + width) = rw mul-suc at lt in
    let high : ℕ = word / 2 ^ width in
    let rest : packed width (λ i. field width word (suc i)) n ≡ high =
    packed_same width n (λ i. field width word (suc i)) (field width high) (λ i _. field_suc width word i)
    ∙ packed_fields width n high (shr_below word (width * n) width fits) in
    ap (λ (x : ℕ). x + packed width (λ i. field width word (suc i)) n * 2 ^ width) (field_zero width word)
    ∙ ap (λ (x : ℕ). word % 2 ^ width + x * 2 ^ width) rest
    ∙ swapped (word % 2 ^ width) high (2 ^ width)
    ∙ div-add-mod' word (2 ^ width)

pub fields_come_back : FieldsComeBack
fields_come_back width per from count f unit some small words s lt =
    ap (λ (w : ℕ). field width w (s % per)) (words (s / per) (div_below s per count some lt))
    ∙ field_packed width per (λ i. f (s / per * per + i)) (λ j. small (s / per * per + j)) (s % per) (mod_below s per some)
    ∙ ap f (div-add-mod' s per)

pub words_come_back : WordsComeBack
words_come_back width per from unit k fits =
    packed_same width per (λ i. field_at width per from unit (k * per + i)) (field width (get_or unit (from + k) 0))
    (λ i lt.
    ap (λ (q : ℕ). field width (get_or unit (from + q) 0) ((k * per + i) % per)) (div-mul-add k per i lt)
    ∙ ap (field width (get_or unit (from + k) 0)) (mod-mul-add k per i lt))
    ∙ packed_fields width per (get_or unit (from + k) 0) fits
