-- What the lines of a script come to, one after another, each on what those before it left. Assumes nothing.
use Rattle.std.specs.Prelude.{◌≡◌, ℕ, ◌+◌, ◌<◌, ◌≤◌, Bool, true, false, List, [], ◌∷◌, ◌++◌, length, Some, None, Option}
use Rattle.refusal.specs.declared.reason.Refusal.{Refusal}
use Rattle.refusal.specs.Numbers.{number_of}
use Rattle.joined.specs.declared.record.Joined.{Joined}
use Rattle.lines.specs.Pieces.{lines_of}
use Rattle.calls.specs.declared.call.Call.{Call}
use Rattle.calls.specs.declared.call.Call.TheVariants as call
use Rattle.calls.specs.declared.answer.Answer.{Answer}
use Rattle.calls.specs.Plans.{Machine}
use Rattle.promise.specs.declared.request.Request.{Request}
use Rattle.promise.specs.declared.request.Request.TheVariants.{Call as aCall, Restart}
use Rattle.promise.specs.declared.request.Return.{Return}
use Rattle.promise.specs.Told.{Performs}
use Rattle.commands.specs.declared.command.Contents.{Contents}
use Rattle.commands.specs.Comebacks.{comeback_of}
use Rattle.commands.specs.Commands.{Wanted, Asked, format, mount, begin, commit, abandon, checkpoint, close, clear, show, set, restart, command_of}
use Rattle.commands.specs.Records.{why_not, Fulfils}
use Rattle.printing.specs.declared.detail.Detail.{Detail}
use Rattle.printing.specs.declared.detail.Detail.TheVariants as detail
use Rattle.printing.specs.Texts.{line_text}
use Rattle.session.specs.Said.{tiles_and_masts, number_said, detail_said, letter_of, needs_ticket, held_after}

-- the call that a command makes; tile and mast set the record that they make
pub data Makes : Asked → Call Joined → Type 0 where
  formats : Makes format call.Format
  mounts : Makes mount call.Mount
  begins : Makes begin call.Begin
  commits : Makes commit call.Commit
  abandons : Makes abandon call.Abandon
  checkpoints : Makes checkpoint call.Checkpoint
  closes : Makes close call.Close
  clears : {r : ℕ} → Makes (clear r) (call.Clear r)
  reads : {r : ℕ} → Makes (show r) (call.Read r)
  sets : {r : ℕ} {w : Wanted} {x : Joined} → Fulfils w x → Makes (set r w) (call.Set r x)

-- how both devices come back: all contents old or all new, and for so many acts each
abbrev pub return_of : Contents → ℕ → ℕ → Return
return_of contents nvmActs diskActs =
    record { nvm = comeback_of contents; disk = comeback_of contents; nvm_acts = nvmActs; disk_acts = diskActs }

-- what is asked to give a held ticket up
abbrev pub leaving : Bool → List (Request Joined)
leaving true = aCall call.Abandon ∷ []
leaving false = []

-- A line from a store with or without a held ticket: what was asked of the store with its answers, the number and the detail that the
-- line says, and the store and the ticket after it.
pub data Line (m : Machine) (held : Bool) : Option Asked → List (Request Joined) → List (Answer Joined) → ℕ → Detail → Machine → Bool → Type 0 where
  -- a line of another form says 90 and calls nothing
  unread : Line m held None [] [] 90 detail.Nothing m held
  -- a command that needs a ticket says 23 where none is held, and calls nothing
  ticketless : {c : Asked} → needs_ticket c ≡ true → held ≡ false → Line m held (Some c) [] [] 23 detail.Nothing m held
  -- a record that cannot be made says why, and nothing is called
  unmade : {r : ℕ} {w : Wanted} {e : Refusal} → held ≡ true → why_not w ≡ Some e → Line m held (Some (set r w)) [] [] (number_of e) detail.Nothing m held
  -- any other command makes its call, and says the call's answer
  made : {c : Asked} {k : Call Joined} {a : Answer Joined} {n : Machine} → (needs_ticket c ≡ true → held ≡ true) → Makes c k
      → Performs tiles_and_masts m (aCall k ∷ []) (a ∷ []) n
      → Line m held (Some c) (aCall k ∷ []) (a ∷ []) (number_said a) (detail_said a) n (held_after held c a)
  -- a restart abandons a held ticket first, and is done
  back : {contents : Contents} {nvmActs diskActs : ℕ} {answers : List (Answer Joined)} {n : Machine}
      → Performs tiles_and_masts m (leaving held ++ Restart (return_of contents nvmActs diskActs) ∷ []) answers n
      → Line m held (Some (restart contents nvmActs diskActs)) (leaving held ++ Restart (return_of contents nvmActs diskActs) ∷ []) answers 0 detail.Nothing n false

-- such a line, whatever was asked
pub record LineSaid (m : Machine) (held : Bool) (asked : Option Asked) (number : ℕ) (said : Detail) (n : Machine) (after : Bool) : Type 0 where
  pub requests : List (Request Joined)
  pub answers : List (Answer Joined)
  pub line : Line m held asked requests answers number said n after

-- and its line of the output, behind what was there before
pub record LineWritten (m : Machine) (held : Bool) (asked : Option Asked) (number : ℕ) (before output : List ℕ) (n : Machine) (after : Bool) : Type 0 where
  pub answer : ℕ
  pub said : Detail
  pub line : LineSaid m held asked answer said n after
  pub output_is : output ≡ before ++ line_text number (letter_of n) answer said

-- what a call says, and what becomes of the ticket, if a command makes it
pub record CallSaid (m : Machine) (held : Bool) (asked : Asked) (made : Call Joined) (number : ℕ) (said : Detail) (n : Machine) (after : Bool) : Type 0 where
  pub answer : Answer Joined
  pub performed : Performs tiles_and_masts m (aCall made ∷ []) (answer ∷ []) n
  pub number_is : number ≡ number_said answer
  pub said_is : said ≡ detail_said answer
  pub after_is : after ≡ held_after held asked answer

-- a ticket that may be held was given up
pub record GivenUp (m : Machine) (held : Bool) (n : Machine) : Type 0 where
  pub answers : List (Answer Joined)
  pub performed : Performs tiles_and_masts m (leaving held) answers n

-- The lines of a script from a store without a ticket: what was asked with its answers, and the texts that they print, one for each
-- line, with its number from 1 on and the letter of the store after it. The newest line is last.
pub data Lines (m : Machine) : List (List ℕ) → List (Request Joined) → List (Answer Joined) → List (List ℕ) → Machine → Bool → Type 0 where
  none : Lines m [] [] [] [] m false
  next : {lines texts : List (List ℕ)} {requests asked : List (Request Joined)} {answers given : List (Answer Joined)} {n p : Machine} {held after : Bool}
      {number : ℕ} {said : Detail}
      → Lines m lines requests answers texts n held → (line : List ℕ) → Line n held (command_of line) asked given number said p after
      → Lines m (lines ++ line ∷ []) (requests ++ asked) (answers ++ given) (texts ++ line_text (length texts + 1) (letter_of p) number said ∷ []) p after

-- texts, one behind another
unfoldable pub joined_texts : List (List ℕ) → List ℕ
joined_texts [] = []
joined_texts (t ∷ ts) = t ++ joined_texts ts

-- How far a script has come: the lines so far with all that was asked for them, which is one list that keeps the promise; the lines
-- that are left; and the output so far.
pub record Progress (m : Machine) (input rest : List ℕ) (number : ℕ) (output : List ℕ) (n : Machine) (held : Bool) : Type 0 where
  pub lines : List (List ℕ)
  pub requests : List (Request Joined)
  pub answers : List (Answer Joined)
  pub texts : List (List ℕ)
  pub ran : Lines m lines requests answers texts n held
  pub left : lines_of input ≡ lines ++ lines_of rest
  pub output_is : output ≡ joined_texts texts
  pub number_is : number ≡ length texts
  pub each : length texts ≡ length lines
  pub promised : Performs tiles_and_masts m requests answers n

-- the most bytes of a script
abbrev pub most_bytes : ℕ
most_bytes = 65536

-- What a script comes to on a store: its lines, then the end of the input. Its output is their texts. All that was asked is one list of
-- requests, which keeps the whole promise.
pub record Script (m : Machine) (input output : List ℕ) (n : Machine) : Type 0 where
  pub requests : List (Request Joined)
  pub answers : List (Answer Joined)
  pub last : List (Answer Joined)
  pub texts : List (List ℕ)
  pub held : Bool
  pub middle : Machine
  pub lines : Lines m (lines_of input) requests answers texts middle held
  pub ended : Performs tiles_and_masts middle (leaving held) last n
  pub each : length texts ≡ length (lines_of input)
  pub output_is : output ≡ joined_texts texts
  pub promised : Performs tiles_and_masts m (requests ++ leaving held) (answers ++ last) n

-- a script that is too long calls nothing and prints one line: 0, u, 91 and a dash
pub record TooLong (m : Machine) (output : List ℕ) (n : Machine) : Type 0 where
  pub output_is : output ≡ line_text 0 117 91 detail.Nothing
  pub same : n ≡ m

-- what the output of a script is
abbrev pub Runs : Machine → List ℕ → List ℕ → Machine → Type 0
Runs m input output n = (length input ≤ most_bytes → Script m input output n) × (most_bytes < length input → TooLong m output n)
