-- Which calls a store takes in which state: unmounted, idle, or with an open transaction. Assumes nothing.
use Rattle.std.specs.Prelude.{Some, None, Option}
use Rattle.refusal.specs.declared.reason.Refusal.{Refusal}
use Rattle.refusal.specs.declared.reason.Refusal.TheVariants.{Mounted, NotMounted, AlreadyOpen, NotOpen}
use Rattle.calls.specs.declared.state.State.{State}
use Rattle.calls.specs.declared.state.State.TheVariants.{Unmounted, Idle, Open}
use Rattle.calls.specs.declared.call.Call.{Call}
use Rattle.calls.specs.declared.call.Call.TheVariants.{Format, Mount, Begin, Set, Clear, Read, Commit, Abandon, Checkpoint, Close}

-- the refusal by state and call together (20 to 23), or none: then the call goes on
abbrev pub judge : {R : Type 0} → State → Call R → Option Refusal
judge Unmounted Format = None
judge Unmounted Mount = None
judge Unmounted Begin = Some NotMounted
judge Unmounted (Set r x) = Some NotMounted
judge Unmounted (Clear r) = Some NotMounted
judge Unmounted (Read r) = Some NotMounted
judge Unmounted Commit = Some NotMounted
judge Unmounted Abandon = Some NotMounted
judge Unmounted Checkpoint = Some NotMounted
judge Unmounted Close = Some NotMounted
judge Idle Format = Some Mounted
judge Idle Mount = Some Mounted
judge Idle Begin = None
judge Idle (Set r x) = Some NotOpen
judge Idle (Clear r) = Some NotOpen
judge Idle (Read r) = None
judge Idle Commit = Some NotOpen
judge Idle Abandon = Some NotOpen
judge Idle Checkpoint = None
judge Idle Close = None
judge Open Format = Some Mounted
judge Open Mount = Some Mounted
judge Open Begin = Some AlreadyOpen
judge Open (Set r x) = None
judge Open (Clear r) = None
judge Open (Read r) = None
judge Open Commit = None
judge Open Abandon = None
judge Open Checkpoint = None
judge Open Close = Some AlreadyOpen
