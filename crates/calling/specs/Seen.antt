-- A store's parts seen as a machine, and the answers of calls on them. Assumes nothing.
use Rattle.std.specs.Prelude.{ℕ, Ok, Err, Result}
use Rattle.refusal.specs.declared.reason.Refusal.{Refusal}
use Rattle.device.specs.Words.{NvmMeaning}
use Rattle.device.specs.Sectors.{DiskMeaning}
use Rattle.crash.specs.Pair.{both}
use Rattle.ringlaws.specs.TxnInfo.{Transaction}
use Rattle.calls.specs.declared.state.State.{State}
use Rattle.calls.specs.declared.answer.Answer.{Answer}
use Rattle.calls.specs.declared.answer.Answer.TheVariants.{Refused, Done, Used, Blocks}
use Rattle.calls.specs.Plans.{Machine}

-- a store by what its devices mean, its state and the settings of its open transaction
abbrev pub seen : NvmMeaning → DiskMeaning → State → Transaction → Machine
seen nvm disk state list = record { devices = both nvm disk; state = state; list = list }

-- the answer of a call that is done or refused
abbrev pub done_answer : {V R : Type 0} → Result V Refusal → Answer R
done_answer (Ok value) = Done
done_answer (Err e) = Refused e

-- the answer of a call that counts the blocks that it wrote
abbrev pub blocks_answer : {R : Type 0} → Result ℕ Refusal → Answer R
blocks_answer (Ok blocks) = Blocks blocks
blocks_answer (Err e) = Refused e

-- the one if the call is done, the other if it is refused
abbrev pub if_done : {V A : Type 0} → Result V Refusal → A → A → A
if_done (Ok value) x y = x
if_done (Err e) x y = y

-- the answer of a commit, which says the places used then
abbrev pub used_answer : {R : Type 0} → Result ℕ Refusal → Answer R
used_answer (Ok places) = Used places
used_answer (Err e) = Refused e
