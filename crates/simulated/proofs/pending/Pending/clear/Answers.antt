use Rattle.std.proofs.Common.{◌≡◌, Bool, true, false, cond, List, get_or, sym, ap, ◌∙◌, arith}
use Rattle.simulated.specs.Lists.{member, distinct}
use Rattle.simulated.proofs.Flags.{listed_below}
use Rattle.simulated.proofs.Lent.{lent_at}
use Rattle.simulated.proofs.pending.Pending.clear.Goals as goal

pub unflag-requires : goal.unflag-requires
unflag-requires c k l = let p = c.args.self.now in omega (arith, listed_below p c.as_slice.result.now c.as_slice.ensures.value k l, c.as_mut_slice.ensures.len, p.long)

-- a flag is gone if it was listed, and was not there else
gone : (m old new : Bool) → new ≡ cond m false old → old ≡ m → new ≡ false
gone true old new h e = h
gone false old new h e = h ∙ e

pub invariant_of-self : goal.invariant_of-self
unfolding member distinct
invariant_of-self c =
    let p = c.args.self.now in
    let e = c.clear.ensures in record {
      long = p.long;
      room = omega (arith, e.capacity, p.room);
      flagged = (λ b. lent_at false p.flags c.as_mut_slice.result.now c.unflag.new.flags c.as_mut_slice.ensures.value c.unflag.auto.flags b
          ∙ gone (member b c.as_slice.result.now) (get_or c.as_mut_slice.result.now b false) _ (c.unflag.ensures b) (ap (λ (xs : List Bool). get_or xs b false) c.as_mut_slice.ensures.value ∙ p.flagged b ∙ sym (ap (member b) c.as_slice.ensures.value))
          ∙ sym (ap (member b) e.items));
      once = ap distinct e.items;
    }
