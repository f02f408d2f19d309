use Rattle.std.proofs.Common.{◌≡◌, ℕ, false, cond, get_or, take}
use Rattle.simulated.specs.Lists.{member}
use Rattle.simulated.proofs.rows.unflag.Given as goal

abbrev pub invariant-loop-b : goal.invariant-loop-b
invariant-loop-b l = (b : ℕ) → get_or l.flags b false ≡ cond (member b (take l.b-index l.queue)) false (get_or l.initial.flags b false)
