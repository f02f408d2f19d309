use Rattle.std.proofs.Common.{◌≡◌, ℕ, ◌/◌, List, Option, ap, ◌∙◌}
use Rattle.device.specs.Words.{Store, nvm_makes}
use Rattle.simulated.specs.Listing.{with_line}
use Rattle.nvm_words.specs.declared.words.Words.{Words}
use Rattle.nvm_words.specs.Acts.{Passed}
use Rattle.nvm_words.specs.Meant.{meant, unsettled_lines, Became}
use Rattle.nvm_words.proofs.Performing.{performed, broke, became_then, became_like}
use Rattle.nvms.specs.Natures.{room_made, room_for, limited_makes, lines_after}
use Rattle.nvms.proofs.Rooms.{acted}
use Rattle.nvms.proofs.acts.SimulatedNvmNvm.store.Goals as goal

-- room is made, then the word is put
stored : (limit given : Option ℕ) (n n₁ n₂ n₃ : Words) (x v : ℕ) → given ≡ limit → Passed (Store x 0) n n₁
    → Became n₁.supply (room_made given (unsettled_lines n₁) (x / 8)) (room_for given (unsettled_lines n₁) (x / 8)) n₁ n₂
    → Became n₂.supply (nvm_makes (Store x v)) (with_line (unsettled_lines n₂) (x / 8)) n₂ n₃
    → Became n₁.supply (limited_makes limit (unsettled_lines n) (Store x v)) (lines_after limit (unsettled_lines n) (Store x v) (meant n).piece) n₁ n₃
stored limit given n n₁ n₂ n₃ x v is passed room put =
    became_like n₁ n₃ n₂.supply n₁.supply _ _ _ _ room.power
    (λ w c. ap (λ o. nvm_makes (Store x v) w (room_made o (unsettled_lines n₁) (x / 8) w c)) is ∙ ap (λ (ls : List ℕ). nvm_makes (Store x v) w (room_made limit ls (x / 8) w c)) passed.paid.lines)
    (ap (λ (ls : List ℕ). with_line ls (x / 8)) (room.lines ∙ ap (λ o. room_for o (unsettled_lines n₁) (x / 8)) is ∙ ap (λ (ls : List ℕ). room_for limit ls (x / 8)) passed.paid.lines))
    (became_then n₁ n₂ n₃ n₁.supply n₂.supply (room_made given (unsettled_lines n₁) (x / 8)) (nvm_makes (Store x v)) (room_for given (unsettled_lines n₁) (x / 8)) (with_line (unsettled_lines n₂) (x / 8)) room put)

pub returns-in_err-admit_store-clause-acted : goal.returns-in_err-admit_store-clause-acted
returns-in_err-admit_store-clause-acted g c =
    let n = c.args.self.now.words in
    let a = Store c.args.word c.args.value in
    let failed = c.in_err-admit_store.ensures in
    acted g.N.Nature.limit n c.admit_store.new.self a c.from_residual.result g.met.N.Nature.room
    (broke c.from_residual.result _ c.from_residual.ensures.1 ∙ failed.answer) (failed.state (limited_makes g.N.Nature.limit (unsettled_lines n) a))

pub returns-clause-nature : goal.returns-clause-nature
returns-clause-nature g c =
    let n = c.args.self.now.words in
    let done = stored g.N.Nature.limit c.limit.result n c.admit_store.new.self c.make_room.new.words c.put.new.self c.args.word c.args.value c.limit.ensures c.in_ok-admit_store.ensures c.make_room.ensures c.put.ensures in
    performed n c.admit_store.new.self c.put.new.self (Store c.args.word 0) (limited_makes g.N.Nature.limit (unsettled_lines n) (Store c.args.word c.args.value)) _ c.in_ok-admit_store.ensures done
