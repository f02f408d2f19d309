use Rattle.std.proofs.Common.{length, is_ok, ap, arith}
use Rattle.device.specs.Words.{Fence, nvm_makes}
use Rattle.nvm_words.specs.Meant.{meant, unsettled_lines, is_unsettled_line}
use Rattle.nvms.proofs.Rooms.{acted, few_left, kept_either}
use Rattle.nvms.proofs.acts.SimulatedNvmNvm.fence.Goals as goal

pub invariant_of-self : goal.invariant_of-self
invariant_of-self g c =
    let n = c.args.self.now in
    let ls = unsettled_lines n.words in
    let kept = kept_either (is_ok c.fence.result) (is_unsettled_line (λ w. nvm_makes Fence w ((meant n.words).piece w))) ls in
    record { few = few_left g.N.Nature.limit ls (unsettled_lines c.fence.new.self) (omega (arith, ap length c.fence.ensures.lines, kept)) n.few }

pub returns-clause-acted : goal.returns-clause-acted
returns-clause-acted g c = acted g.N.Nature.limit c.args.self.now.words c.fence.new.self Fence c.fence.result g.met.N.Nature.room c.fence.ensures.answer c.fence.ensures.state
