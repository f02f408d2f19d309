-- What every device means, and what an act, a power cut and a restart may do to that meaning. `Words` and `Sectors` have the
-- two kinds of device. Assumes nothing.
use Rattle.std.specs.Prelude.{◌≡◌, ℕ, Bool, true, false, cond, ◌⊎◌, Some, None, Ok, Err, Option, Result}
use Rattle.refusal.specs.declared.reason.Refusal.{Refusal}
use Rattle.refusal.specs.declared.reason.Refusal.TheVariants.{Beyond, Unsettled, Dark}
use Rattle.device.specs.Pieces.{Piece, MaySettle, ComesBack}

-- The meaning of a device: its size, whether it is dark (without power), and each piece of its contents by its number.
pub record Meaning (Mark Value : Type 0) : Type 0 where
  pub size : ℕ
  pub dark : Bool
  pub piece : ℕ → Piece Mark Value

-- The rules of a kind of device: which acts lie beyond a size, which meet an unsettled piece where they may not, and what an
-- act makes of the piece with a number.
pub record Rules (Act Mark Value : Type 0) : Type 0 where
  pub beyond : ℕ → Act → Bool
  pub blocked : (ℕ → Piece Mark Value) → Act → Bool
  pub makes : Act → ℕ → Piece Mark Value → Piece Mark Value

-- power fails, and nothing else changes
abbrev pub darkened : {Mark Value : Type 0} → Meaning Mark Value → Meaning Mark Value
darkened m = record { size = m.size; dark = true; piece = m.piece }

-- why an act is refused, in this order: no power, beyond the size, an unsettled piece
abbrev pub refusal_of : {Act Mark Value : Type 0} → Rules Act Mark Value → Meaning Mark Value → Act → Option Refusal
refusal_of rules m a =
    cond m.dark (Some Dark) (cond (rules.beyond m.size a) (Some Beyond) (cond (rules.blocked m.piece a) (Some Unsettled) None))

-- The act is allowed and performed: size and power stay, and each piece is what the act makes of it, or has settled besides.
pub record Performs {Act Mark Value : Type 0} (rules : Rules Act Mark Value) (m : Meaning Mark Value) (a : Act) (n : Meaning Mark Value) : Type 0 where
  pub allowed : refusal_of rules m a ≡ None
  pub size : n.size ≡ m.size
  pub power : n.dark ≡ m.dark
  pub pieces : (i : ℕ) → MaySettle (rules.makes a i (m.piece i)) (n.piece i)

-- The act is refused and nothing changes; or it is allowed, turns the device dark instead, and nothing else changes.
abbrev pub Refuses : {Act Mark Value : Type 0} → Rules Act Mark Value → Meaning Mark Value → Act → Refusal → Meaning Mark Value → Type 0
Refuses rules m a e n =
    ((refusal_of rules m a ≡ Some e) × (n ≡ m)) ⊎ ((refusal_of rules m a ≡ None) × (e ≡ Dark) × (n ≡ darkened m))

-- what a device answers to an act, and what it means then
abbrev pub Acted : {Act Mark Value : Type 0} → Rules Act Mark Value → Meaning Mark Value → Act → Result (Unit {0}) Refusal → Meaning Mark Value → Type 0
Acted rules m a (Ok done) n = Performs rules m a n
Acted rules m a (Err e) n = Refuses rules m a e n

-- Power returns: each unsettled piece comes back at its settled or its present value, whichever, and is settled.
pub record Restarted {Mark Value : Type 0} (m n : Meaning Mark Value) : Type 0 where
  pub size : n.size ≡ m.size
  pub power : n.dark ≡ false
  pub pieces : (i : ℕ) → ComesBack (m.piece i) (n.piece i)
