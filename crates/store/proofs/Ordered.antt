-- A store that a list of requests was run on is in order. Assumes nothing.
use Rattle.std.proofs.Common.{◌≡◌, List, Ok, Err, Result, sym, subst, MatchResult}
use Rattle.std.proofs.Math.Logic.{∥∥₁_map}
use Rattle.refusal.specs.declared.reason.Refusal.{Refusal}
use Rattle.refusal.specs.declared.reason.Refusal.TheVariants.{NoMemory}
use Rattle.device.specs.Words.{NvmMeaning}
use Rattle.device.specs.Sectors.{DiskMeaning}
use Rattle.calls.specs.declared.answer.Answer.{Answer}
use Rattle.calls.specs.Plans.{Kind}
use Rattle.order.specs.Order.{InOrder}
use Rattle.engine.specs.declared.engine.Engine.{Engine}
use Rattle.engine.specs.Machine.{machine}
use Rattle.promise.specs.declared.request.Request.{Request}
use Rattle.promise.specs.History.{unknown}
use Rattle.promise.specs.Told.{Performs}

-- what is known after the requests holds that it is in order; for want of memory it is as it was
module _ {N D K R V : Type 0} (nvm : N → NvmMeaning) (disk : D → DiskMeaning) (kind : Kind R) (requests : List (Request R)) (items : V → List (Answer R)) (e f : Engine N D K R) where
  pub ran : (r : Result V Refusal) → MatchResult r (λ answers. Performs kind (machine nvm disk e) requests (items answers) (machine nvm disk f)) (λ x. (x ≡ NoMemory) × (f ≡ e))
      → ∥ InOrder (machine nvm disk e) ∥₁ → ∥ InOrder (machine nvm disk f) ∥₁
  ran (Ok answers) h o = ∥∥₁_map o (λ order. (h unknown (record { order = order; past = tt })).known.order)
  ran (Err x) h o = subst (λ s. ∥ InOrder (machine nvm disk s) ∥₁) (sym h.1) o
