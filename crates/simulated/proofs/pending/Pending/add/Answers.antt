use Rattle.std.proofs.Common.{◌≡◌, ◌<◌, false, length, get_or, sym, ap, ◌∙◌, arith}
use Rattle.std.proofs.lemmas.List.{get_or_read}
use Rattle.simulated.specs.Lists.{member, distinct}
use Rattle.simulated.proofs.Members.{distinct_push}
use Rattle.simulated.proofs.Flags.{room_for, flagged_push}
use Rattle.simulated.proofs.pending.Pending.add.Goals as goal

pub push_reserved-requires : goal.push_reserved-requires
push_reserved-requires c =
    let p = c.args.self.now in
    let lt : c.args.b < length p.flags.items = omega (arith, p.flags.ok.0, p.long) in
    let free : get_or p.flags.items c.args.b false ≡ false = sym (get_or_read p.flags.items c.args.b _ lt c.index.ensures false) ∙ c.if-not-index.true in
    omega (arith, room_for p.queue.items p.flags.items c.args.b p.flagged p.once lt (sym (p.flagged c.args.b) ∙ free), p.flags.ok.0, p.queue.ok.0, p.long, p.room)

pub invariant_of-self : goal.invariant_of-self
invariant_of-self c =
    let p = c.args.self.now in
    let e = c.push_reserved.ensures in
    let lt : c.args.b < length p.flags.items = omega (arith, p.flags.ok.0, p.long) in
    let free : get_or p.flags.items c.args.b false ≡ false = sym (get_or_read p.flags.items c.args.b _ lt c.index.ensures false) ∙ c.if-not-index.true in record { long = p.long; room = omega (arith, e.capacity, p.room); flagged = (λ x. flagged_push p.flags.items p.queue.items c.args.b lt p.flagged x ∙ sym (ap (member x) e.items)); once = ap distinct e.items ∙ distinct_push c.args.b p.queue.items p.once (sym (p.flagged c.args.b) ∙ free) }
