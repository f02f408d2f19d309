-- The power of a simulated device: it performs a number of acts, and the next one turns it dark (without power). Assumes
-- nothing.
use Rattle.std.specs.Prelude.{◌≡◌, ℕ, ◌-◌, Bool, true, false, cond, Some, None, Ok, Err, Option, Result, ◌==◌, refl}
use Rattle.refusal.specs.declared.reason.Refusal.{Refusal}
use Rattle.refusal.specs.declared.reason.Refusal.TheVariants.{Dark}

-- how many more acts are performed, and whether power is gone
pub record Power : Type 0 where
  pub left : ℕ
  pub dark : Bool

-- by the acts that are left, if there is power; when it is gone, none is left
abbrev pub power_of : Option ℕ → Power
power_of None = record { left = 0; dark = true }
power_of (Some acts) = record { left = acts; dark = false }

-- the acts that are left, if there is power
abbrev pub acts_of : Power → Option ℕ
acts_of p = cond p.dark None (Some p.left)

pub acts_back : (acts : Option ℕ) → acts_of (power_of acts) ≡ acts
acts_back None = refl
acts_back (Some acts) = refl

-- power for a number of acts
abbrev pub charged : ℕ → Power
charged acts = record { left = acts; dark = false }

-- an act is performed if there is power and an act is left
abbrev pub spend_answer : Power → Result (Unit {0}) Refusal
spend_answer p = cond p.dark (Err Dark) (cond (p.left == 0) (Err Dark) (Ok tt))

-- a performed act leaves one fewer; with none left, power goes
abbrev pub spent : Power → Power
spent p = cond p.dark p (cond (p.left == 0) (record { left = p.left; dark = true }) (record { left = p.left - 1; dark = false }))
