use Rattle.std.proofs.Common.{◌+◌, ◌*◌, filter, ap, ◌∙◌}
use Rattle.device.specs.Pieces.{is_unsettled}
use Rattle.device.specs.Words.{Word, Fence, nvm_makes, fenced_word}
use Rattle.nvm_words.specs.Meant.{meant, unsettled_lines, is_unsettled_line}
use Rattle.nvm_words.proofs.Any.{any_same}
use Rattle.nvm_words.proofs.Listed.{kept_same}
use Rattle.nvm_words.proofs.Performing.{performed_ok, performed}
use Rattle.nvm_words.proofs.words.Words.fence.Goals as goal

pub returns : goal.returns
returns c =
    let n = c.args.self.now in
    let n₁ = c.admit_fence.new.self in
    let n₂ = c.fence_lines.new.self in
    let passed = c.in_ok-admit_fence.ensures in
    let became = c.fence_lines.ensures in
    record {
      answer = performed_ok n n₁ n₂ Fence (nvm_makes Fence) _ passed became;
      state = performed n n₁ n₂ Fence (nvm_makes Fence) _ passed became;
      lines = became.lines
          ∙ ap (filter (is_unsettled_line (λ w. fenced_word ((meant n₁).piece w)))) passed.paid.lines
          ∙ kept_same _ _ (unsettled_lines n) (λ l m. any_same _ _ 8 (λ k lt. ap (λ (d : Word). is_unsettled (fenced_word d)) (passed.paid.words (8 * l + k))));
    }
