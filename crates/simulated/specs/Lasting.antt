-- How long a simulated device has power, over whole lists of acts. Assumes nothing.
use Rattle.std.specs.Prelude.{◌≡◌, ℕ, ◌+◌, ◌<◌, true, false, cond, List, [], ◌∷◌, is_ok, None, Err}
use Rattle.refusal.specs.declared.reason.Refusal.TheVariants.{Dark}
use Rattle.device.specs.Pieces.{Piece}
use Rattle.device.specs.Devices.{Rules, refusal_of}
use Rattle.simulated.specs.Natures.{Simulated, answers, becomes}

-- The device after a list of acts.
unfoldable pub after_acts : {Act Mark Value : Type 0} → Rules Act Mark Value → (Act → ℕ → Piece Mark Value → Piece Mark Value) → Simulated Mark Value → List Act → Simulated Mark Value
after_acts rules nature s [] = s
after_acts rules nature s (a ∷ rest) = after_acts rules nature (becomes rules (nature a) s a) rest

-- how many of the acts are performed
unfoldable pub performed_in : {Act Mark Value : Type 0} → Rules Act Mark Value → (Act → ℕ → Piece Mark Value → Piece Mark Value) → Simulated Mark Value → List Act → ℕ
performed_in rules nature s [] = 0
performed_in rules nature s (a ∷ rest) = cond (is_ok (answers rules s a)) 1 0 + performed_in rules nature (becomes rules (nature a) s a) rest

-- Power lasts for exactly as many performed acts as there were left.
pub record Lasts {Act Mark Value : Type 0} (rules : Rules Act Mark Value) (nature : Act → ℕ → Piece Mark Value → Piece Mark Value) : Type 0 where
  -- each performed act is counted, and no other
  pub counted : (s : Simulated Mark Value) (acts : List Act) → performed_in rules nature s acts + (after_acts rules nature s acts).left ≡ s.left
  -- no act turns the device dark before they are spent
  pub not_before : (s : Simulated Mark Value) (acts : List Act) → s.meaning.dark ≡ false → performed_in rules nature s acts < s.left → (after_acts rules nature s acts).meaning.dark ≡ false
  -- and then the first act that nothing else refuses does
  pub not_after : (s : Simulated Mark Value) (acts : List Act) (a : Act) → performed_in rules nature s acts ≡ s.left → refusal_of rules (after_acts rules nature s acts).meaning a ≡ None
      → (answers rules (after_acts rules nature s acts) a ≡ Err Dark) × ((becomes rules (nature a) (after_acts rules nature s acts) a).meaning.dark ≡ true)
