-- What a call does to a store, and what a restart makes of it. Free are only what the devices settle of their own accord and the
-- moment at which power fails. Assumes nothing.
use Rattle.std.specs.Prelude.{◌≡◌, true, false, []}
use Rattle.refusal.specs.declared.reason.Refusal.TheVariants.{Dark}
use Rattle.crash.specs.Pair.{is_dark, PerformedPair, CutPair, PairRestarted}
use Rattle.calls.specs.declared.state.State.TheVariants.{Unmounted}
use Rattle.calls.specs.declared.call.Call.{Call}
use Rattle.calls.specs.declared.answer.Answer.{Answer}
use Rattle.calls.specs.declared.answer.Answer.TheVariants.{Refused}
use Rattle.calls.specs.Plans.{Machine, Kind, Plan, plan_of}

-- a device is dark at the start: the answer is 5 before all else, and nothing changes
pub record WasDark {R : Type 0} (m : Machine) (a : Answer R) (n : Machine) : Type 0 where
  pub before : is_dark m.devices ≡ true
  pub says : a ≡ Refused Dark
  pub same : n ≡ m

-- the call goes by its plan: all its acts are performed
pub record Went {R : Type 0} (plan : Plan R) (m : Machine) (a : Answer R) (n : Machine) : Type 0 where
  pub before : is_dark m.devices ≡ false
  pub says : a ≡ plan.answer
  pub acts : PerformedPair m.devices plan.acts n.devices
  pub state : n.state ≡ plan.state
  pub list : n.list ≡ plan.list

-- a device turns dark at one of the acts: the answer is 5, a beginning of the acts is done, and the store is dark from then on
pub record WentDark {R : Type 0} (plan : Plan R) (m : Machine) (a : Answer R) (n : Machine) : Type 0 where
  pub before : is_dark m.devices ≡ false
  pub says : a ≡ Refused Dark
  pub acts : CutPair m.devices plan.acts n.devices
  pub state : n.state ≡ m.state
  pub list : n.list ≡ m.list

-- one call on a store, its answer, and the store after it
pub data Step {R : Type 0} (kind : Kind R) (m : Machine) (call : Call R) (a : Answer R) (n : Machine) : Type 0 where
  was_dark : WasDark m a n → Step kind m call a n
  went : Went (plan_of kind m call) m a n → Step kind m call a n
  went_dark : WentDark (plan_of kind m call) m a n → Step kind m call a n

-- Restart: the store ends, and its two devices, which have power again, are a new unmounted store.
pub record MachineRestarted (m n : Machine) : Type 0 where
  pub devices : PairRestarted m.devices n.devices
  pub state : n.state ≡ Unmounted
  pub list : n.list ≡ []
