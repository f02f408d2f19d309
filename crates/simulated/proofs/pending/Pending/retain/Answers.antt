use Rattle.std.proofs.Common.{◌≡◌, ℕ, Bool, true, false, cond, List, get_or, filter, sym, ap, ◌∙◌, arith, rules}
use Rattle.std.proofs.lemmas.Fn.{filter_same}
use Rattle.simulated.specs.Lists.{member, distinct}
use Rattle.simulated.proofs.Members.{member_kept, distinct_kept}
use Rattle.simulated.proofs.Flags.{listed_below}
use Rattle.simulated.proofs.Lent.{lent_at}
use Rattle.simulated.proofs.pending.Pending.retain.Goals as goal

pub reflag-requires : goal.reflag-requires
reflag-requires c =
    let p = c.args.self.now in (
      (λ k l. omega (arith, listed_below p c.as_slice.result.now c.as_slice.ensures.value k l, c.as_mut_slice.ensures.len, p.long)),
      omega (arith, c.requires, c.as_mut_slice.ensures.len, p.long),
    )

-- a flag that was listed is as the mark says, and one that was not is not set
flag_kept : (m k old new : Bool) → new ≡ cond m k old → old ≡ m → new ≡ cond m k false
flag_kept true k old new h e = h
flag_kept false k old new h e = h ∙ e

pub invariant_of-self : goal.invariant_of-self
invariant_of-self c =
    let p = c.args.self.now in
    let keep : ℕ → Bool = (λ b. get_or c.args.keep.now b false) in
    let lines : c.retain.new.self.items ≡ filter keep p.queue.items = filter_same _ _ _ (λ x b f' k. search rules) _ _ c.retain.ensures.filtered in record {
      long = p.long;
      room = omega (arith, c.retain.ensures.capacity, p.room);
      flagged = (λ b. lent_at false p.flags c.as_mut_slice.result.now c.reflag.new.flags c.as_mut_slice.ensures.value c.reflag.auto.flags b
          ∙ flag_kept (member b c.as_slice.result.now) (keep b) (get_or c.as_mut_slice.result.now b false) _ (c.reflag.ensures b) (ap (λ (xs : List Bool). get_or xs b false) c.as_mut_slice.ensures.value ∙ p.flagged b ∙ sym (ap (member b) c.as_slice.ensures.value))
          ∙ ap (λ (xs : List ℕ). cond (member b xs) (keep b) false) c.as_slice.ensures.value
          ∙ sym (member_kept keep b p.queue.items)
          ∙ sym (ap (member b) lines));
      once = ap distinct lines ∙ distinct_kept keep p.queue.items p.once;
    }

pub returns-clause-lines : goal.returns-clause-lines
returns-clause-lines c = filter_same _ _ _ (λ x b f' k. search rules) _ _ c.retain.ensures.filtered
