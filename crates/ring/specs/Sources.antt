-- What a source of words answers, and the contents that agree with it. Assumes nothing.
use Rattle.std.specs.Prelude.{◌≡◌, ℕ, ◌*◌, ◌<◌, cond, List, length, Ok, Err, Result, nat_lt, slice_index}
use Rattle.refusal.specs.declared.reason.Refusal.{Refusal}
use Rattle.refusal.specs.declared.reason.Refusal.TheVariants.{Beyond}
use Rattle.ringlaws.specs.Layout.{Contents}

-- for each word number the word, or why it is refused
abbrev pub Reading : Type 0
Reading = ℕ → Result ℕ Refusal

-- words in a list
abbrev pub word_of : List ℕ → Reading
word_of words n = cond (nat_lt n (length words)) (Ok (slice_index words n)) (Err Beyond)

-- Contents that are what the source answers wherever it answers, and anything where it refuses. What holds of all of them
-- does not hang on a refused word.
abbrev pub Agrees : Reading → Contents → Type 0
Agrees reads c = (w v : ℕ) → reads w ≡ Ok v → c w ≡ v

-- the source refuses a word of the first `units` units so
abbrev pub RefusesWithin : Reading → ℕ → Refusal → Type 0
RefusesWithin reads units e = (w : ℕ) × (w < 32 * units) × (reads w ≡ Err e)
