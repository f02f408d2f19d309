use Rattle.std.proofs.Common.{◌≡◌, ℕ, Bool, true, false, List, [], get_or, replicate, sym, ap, ◌∙◌, rules}
use Rattle.simulated.specs.Lists.{member, distinct}
use Rattle.simulated.proofs.Flags.{none_flagged}
use Rattle.simulated.proofs.pending.Pending.new.Goals as goal

none : (flags : List Bool) (queue : List ℕ) (n : ℕ) → flags ≡ replicate n false → queue ≡ [] → (b : ℕ) → get_or flags b false ≡ member b queue
unfolding member
none flags queue n e q b = ap (λ (ys : List Bool). get_or ys b false) e ∙ none_flagged n b ∙ sym (ap (member b) q)

empty : (queue : List ℕ) → queue ≡ [] → distinct queue ≡ true
unfolding distinct
empty queue q = ap distinct q

pub invariant_of-result-clause-flagged : goal.invariant_of-result-clause-flagged
invariant_of-result-clause-flagged c =
    let flags : c.in_ok-flags.flags.items ≡ replicate c.args.size false = search rules in
    let queue : c.in_ok-queue.queue.items ≡ [] = search rules in none _ _ c.args.size flags queue

pub invariant_of-result-clause-once : goal.invariant_of-result-clause-once
invariant_of-result-clause-once c = let queue : c.in_ok-queue.queue.items ≡ [] = search rules in empty _ queue
