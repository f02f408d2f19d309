-- What a simulated device does, exactly: how it answers an act, what it is then, and how it comes back. A kind of simulated
-- device adds its nature: what it makes of each piece when it performs an act. Assumes nothing.
use Rattle.std.specs.Prelude.{ℕ, ◌-◌, Bool, true, false, cond, Some, None, Ok, Err, vec_items, Option, Result, ◌==◌, slice_index_or}
use Rattle.refusal.specs.declared.reason.Refusal.{Refusal}
use Rattle.refusal.specs.declared.reason.Refusal.TheVariants.{Dark}
use Rattle.device.specs.declared.comeback.Comeback.{Comeback}
use Rattle.device.specs.declared.comeback.Comeback.TheVariants.{Old, New, Chosen}
use Rattle.device.specs.Pieces.{Piece, settled, settled_value, present_value}
use Rattle.device.specs.Devices.{Meaning, Rules, darkened, refusal_of}

-- A simulated device is its meaning and how many more acts it performs.
pub record Simulated (Mark Value : Type 0) : Type 0 where
  pub meaning : Meaning Mark Value
  pub left : ℕ

-- what becomes of an act: it is refused as every device refuses it, or it turns the device dark, or it is performed
pub data Outcome : Type 0 where
  is_refused : Refusal → Outcome
  goes_dark : Outcome
  is_performed : Outcome

-- by the reason to refuse the act, and whether no act is left: one that is not refused is performed as long as acts are left
abbrev pub outcome_of : Option Refusal → Bool → Outcome
outcome_of (Some e) spent = is_refused e
outcome_of None spent = cond spent goes_dark is_performed

abbrev pub answer_of : Outcome → Result (Unit {0}) Refusal
answer_of (is_refused e) = Err e
answer_of goes_dark = Err Dark
answer_of is_performed = Ok tt

-- each piece by `makes`, and one act fewer
abbrev pub performed_by : {Mark Value : Type 0} → (ℕ → Piece Mark Value → Piece Mark Value) → Simulated Mark Value → Simulated Mark Value
performed_by makes s =
    record { meaning = record { size = s.meaning.size; dark = s.meaning.dark; piece = λ i. makes i (s.meaning.piece i) }; left = s.left - 1 }

abbrev pub state_of : {Mark Value : Type 0} → (ℕ → Piece Mark Value → Piece Mark Value) → Simulated Mark Value → Outcome → Simulated Mark Value
state_of makes s (is_refused e) = s
state_of makes s goes_dark = record { meaning = darkened s.meaning; left = s.left }
state_of makes s is_performed = performed_by makes s

-- what a simulated device answers to an act
abbrev pub answers : {Act Mark Value : Type 0} → Rules Act Mark Value → Simulated Mark Value → Act → Result (Unit {0}) Refusal
answers rules s a = answer_of (outcome_of (refusal_of rules s.meaning a) (s.left == 0))

-- what it is then, if its nature makes `makes` of each piece
abbrev pub becomes : {Act Mark Value : Type 0} → Rules Act Mark Value → (ℕ → Piece Mark Value → Piece Mark Value) → Simulated Mark Value → Act → Simulated Mark Value
becomes rules makes s a = state_of makes s (outcome_of (refusal_of rules s.meaning a) (s.left == 0))

-- whether the piece with a number comes back at its present value
abbrev pub takes_new : Comeback → ℕ → Bool
takes_new Old i = false
takes_new New i = true
takes_new (Chosen marks) i = slice_index_or (vec_items marks) i false

-- power returns for a number of acts, and each piece is settled
abbrev pub returned : {Mark Value : Type 0} → Comeback → ℕ → Simulated Mark Value → Simulated Mark Value
returned how acts s = record {
  meaning = record {
    size = s.meaning.size;
    dark = false;
    piece = λ i. settled (cond (takes_new how i) (present_value (s.meaning.piece i)) (settled_value (s.meaning.piece i)));
  };
  left = acts;
}
