use Rattle.std.proofs.Common.{◌≡◌, ℕ, ◌+◌, ◌*◌, ◌<◌, length, get_or}
use Rattle.ringlaws.specs.Layout.{Contents}
use Rattle.ring.specs.Sources.{Agrees}
use Rattle.ring.proofs.unit.load_unit.Given as goal

abbrev pub invariant-loop-i : goal.invariant-loop-i
invariant-loop-i g l =
    (length l.word-items ≡ 32)
    × ((c : Contents) → Agrees (g.S.Source.reads l.source) c → (k : ℕ) → k < l.i → get_or l.word-items k 0 ≡ c (32 * l.unit + k))
