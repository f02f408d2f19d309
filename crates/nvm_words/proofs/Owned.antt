-- What the words of a simulated memory always are. Assumes nothing.
use Rattle.std.proofs.Common.{◌≡◌, ℕ, ◌+◌, ◌*◌, ◌<◌, ◌≤◌, false, List, length, get_or, ap, arith}
use Rattle.std.proofs.lemmas.List.{get_or_past}
use Rattle.device.specs.Pieces.{is_unsettled}
use Rattle.simulated.proofs.Flags.{listed_within}
use Rattle.nvm_words.specs.declared.cell.Cell.TheVariants.{Settled}
use Rattle.nvm_words.specs.Cells.{cell_word}
use Rattle.nvm_words.specs.declared.words.Words.{Words}
use Rattle.nvm_words.specs.Meant.{meant, unsettled_lines}

-- a listed line lies within the size
pub listed_below : (n : Words) (ls : List ℕ) → ls ≡ unsettled_lines n → (k : ℕ) → k < length ls → get_or ls k 0 < 4 * n.units
listed_below n ls is k lt =
    let lt' : k < length n.pending.queue.items = omega (arith, ap length is) in
    let in-flags = listed_within n.pending.flags.items n.pending.queue.items n.pending.flagged k lt' in
    omega (arith, in-flags, n.pending.flags.ok.0, n.pending.long, n.covers, ap (λ xs. get_or xs k 0) is)

-- so its eight words do
pub listed_words : (n : Words) (ls : List ℕ) → ls ≡ unsettled_lines n → (m : ℕ) → m ≡ 32 * n.units → (k : ℕ) → k < length ls → 8 * get_or ls k 0 + 8 ≤ m
listed_words n ls is m e k lt = omega (arith, listed_below n ls is k lt)

-- there is nothing to settle beyond the size
pub beyond_rests : (n : Words) (w : ℕ) → 32 * n.units ≤ w → is_unsettled ((meant n).piece w) ≡ false
beyond_rests n w far = ap (λ c. is_unsettled (cell_word c)) (get_or_past n.cells.items w (Settled 0) (omega (arith, n.cells.ok.0, n.cells_long)))
