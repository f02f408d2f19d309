-- When an act on the words of a simulated memory is admitted, and what a fence leaves. Assumes nothing.
use Rattle.std.specs.Prelude.{◌≡◌, ℕ, false, List, Some, None, Ok, Err, filter, Option, Result, nat_eq}
use Rattle.refusal.specs.declared.reason.Refusal.{Refusal}
use Rattle.device.specs.Devices.{refusal_of}
use Rattle.device.specs.Words.{Word, NvmAct, Fence, nvm_rules, nvm_makes}
use Rattle.simulated.specs.Power.{spent}
use Rattle.simulated.specs.Natures.{answers, becomes}
use Rattle.nvm_words.specs.declared.words.Words.{Words}
use Rattle.nvm_words.specs.Meant.{meant, simulated_nvm, unsettled_lines, is_unsettled_line, Became}

-- the answer to a check that may refuse
abbrev pub verdict : Option Refusal → Result (Unit {0}) Refusal
verdict (Some e) = Err e
verdict None = Ok tt

-- an act that is admitted is neither refused nor the one that turns the device dark; it is paid for, and all else is still to be done
pub record Passed (a : NvmAct) (n n' : Words) : Type 0 where
  pub allowed : refusal_of nvm_rules (meant n) a ≡ None
  pub affordable : nat_eq n.supply.left 0 ≡ false
  pub paid : Became (spent n.supply) (λ _ c. c) (unsettled_lines n) n n'

-- an act that is not admitted is over: it is answered, and what became of the device does not depend on what the act would have made
pub record Failed (a : NvmAct) (n : Words) (e : Refusal) (n' : Words) : Type 0 where
  pub answer : Err e ≡ answers nvm_rules (simulated_nvm n) a
  pub state : (makes : ℕ → Word → Word) → simulated_nvm n' ≡ becomes nvm_rules makes (simulated_nvm n) a
  pub lines : unsettled_lines n' ≡ unsettled_lines n

abbrev pub Admitted : NvmAct → Words → Result (Unit {0}) Refusal → Words → Type 0
Admitted a n (Ok done) n' = Passed a n n'
Admitted a n (Err e) n' = Failed a n e n'

-- the lines that still hold an unsettled word after a fence, in the same order
abbrev pub fenced_lines : Words → List ℕ
fenced_lines n = filter (is_unsettled_line (λ w. nvm_makes Fence w ((meant n).piece w))) (unsettled_lines n)
