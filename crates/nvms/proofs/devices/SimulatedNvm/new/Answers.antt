use Rattle.std.proofs.Common.{ℕ, List, Option, ap, ◌∙◌}
use Rattle.device.specs.Words.{WordMark}
use Rattle.simulated.specs.declared.supply.Supply.{Supply}
use Rattle.simulated.specs.Natures.{Simulated}
use Rattle.simulated.proofs.Laws.{same_state}
use Rattle.nvm_words.specs.Meant.{meant, unsettled_lines}
use Rattle.nvm_words.specs.Made.{made_lines}
use Rattle.nvms.specs.Natures.{surplus_settled, surplus_left}
use Rattle.nvms.proofs.Rooms.{few_made}
use Rattle.nvms.proofs.devices.SimulatedNvm.new.Goals as goal

pub invariant_of-result : goal.invariant_of-result
invariant_of-result g c = record { few = few_made g.N.Nature.limit (unsettled_lines c.in_ok-words.words) (unsettled_lines c.settle_surplus.new.words) (c.settle_surplus.ensures.lines ∙ ap (λ o. surplus_left o (unsettled_lines c.in_ok-words.words)) c.limit.ensures) }

pub returns : goal.returns
returns g c =
    let made = c.in_ok-words.ensures in
    let became = c.settle_surplus.ensures in
    let n = c.in_ok-words.words in
    let limit = g.N.Nature.limit in
    let lines = made_lines c.args.settled.items c.args.present.items c.args.marks.items in
    record {
      state = same_state _ _
          (became.size ∙ ap (λ (s : Simulated WordMark ℕ). s.meaning.size) made.state)
          (ap (λ (p : Supply). p.dark) became.power ∙ ap (λ (s : Simulated WordMark ℕ). s.meaning.dark) made.state)
          (λ w. became.words w ∙ ap (λ (o : Option ℕ). surplus_settled o (unsettled_lines n) w ((meant n).piece w)) c.limit.ensures
          ∙ ap (λ (ls : List ℕ). surplus_settled limit ls w ((meant n).piece w)) made.lines ∙ ap (λ (s : Simulated WordMark ℕ). surplus_settled limit lines w (s.meaning.piece w)) made.state)
          (ap (λ (p : Supply). p.left) became.power ∙ ap (λ (s : Simulated WordMark ℕ). s.left) made.state);
      lines = became.lines ∙ ap (λ (o : Option ℕ). surplus_left o (unsettled_lines n)) c.limit.ensures ∙ ap (surplus_left limit) made.lines;
    }
