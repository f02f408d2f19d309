-- Runs of acts on a device of any kind, and what they make of its contents. Assumes nothing.
use Rattle.std.specs.Prelude.{◌≡◌, ℕ, Bool, true, false, ◌⊎◌, List, [], ◌∷◌, ◌++◌, Ok, Err, Result}
use Rattle.refusal.specs.declared.reason.Refusal.{Refusal}
use Rattle.refusal.specs.declared.reason.Refusal.TheVariants.{Dark}
use Rattle.device.specs.Pieces.{Piece, settled, unsettled, settled_value, present_value}
use Rattle.device.specs.Devices.{Meaning, Rules, darkened, Performs, Refuses}
use Rattle.crash.specs.Runs.{Performed, Stopped, Halted, Ran, Each}

-- all the acts were performed by a device of these rules
abbrev pub PerformedOn : {Act Mark Value : Type 0} → Rules Act Mark Value → Meaning Mark Value → List Act → Meaning Mark Value → Type 0
PerformedOn rules = Performed (Performs rules)

-- some act was refused with e, and those before it were performed
abbrev pub HaltedOn : {Act Mark Value : Type 0} → Rules Act Mark Value → Meaning Mark Value → List Act → Refusal → Meaning Mark Value → Type 0
HaltedOn rules = Halted (Performs rules) (Refuses rules)

-- what an inner call promises of its acts
abbrev pub RanOn : {Act Mark Value V : Type 0} → Rules Act Mark Value → Meaning Mark Value → List Act → Result V Refusal → Meaning Mark Value → Type 0
RanOn rules = Ran (Performs rules) (Refuses rules)

-- in place of the act a the device is dark, and nothing else changes
abbrev pub Darkens : {Act Mark Value : Type 0} → Meaning Mark Value → Act → Meaning Mark Value → Type 0
Darkens m a n = n ≡ darkened m

-- the acts before some act were performed, and then the device was dark
abbrev pub CutOn : {Act Mark Value : Type 0} → Rules Act Mark Value → Meaning Mark Value → List Act → Meaning Mark Value → Type 0
CutOn rules = Stopped (Performs rules) Darkens

-- what a call promises of acts that only darkness stops: all were performed, or it answers Dark and the run was cut
abbrev pub RanOrDark : {Act Mark Value V : Type 0} → Rules Act Mark Value → Meaning Mark Value → List Act → Result V Refusal → Meaning Mark Value → Type 0
RanOrDark rules m acts (Ok v) n = PerformedOn rules m acts n
RanOrDark rules m acts (Err e) n = (e ≡ Dark) × CutOn rules m acts n

-- A beginning of the acts was performed, all or none of them too, and since then no piece has changed: power may have failed
-- or not. A performed run has begun, and so has a cut one.
pub record Begun {Act Mark Value : Type 0} (rules : Rules Act Mark Value) (m : Meaning Mark Value) (acts : List Act) (n : Meaning Mark Value) : Type 0 where
  pub front : List Act
  pub back : List Act
  pub parts : acts ≡ front ++ back
  pub middle : Meaning Mark Value
  pub ran : PerformedOn rules m front middle
  pub size : n.size ≡ middle.size
  pub pieces : (i : ℕ) → n.piece i ≡ middle.piece i

-- the present contents, piece by piece
abbrev pub contents : {Mark Value : Type 0} → Meaning Mark Value → ℕ → Value
contents m i = present_value (m.piece i)

-- everything is settled, at the contents c
abbrev pub Rests : {Mark Value : Type 0} → (ℕ → Value) → Meaning Mark Value → Type 0
Rests c m = (i : ℕ) → m.piece i ≡ settled (c i)

-- each piece of x is c's or d's
abbrev pub Blend : {Value : Type 0} → (ℕ → Value) → (ℕ → Value) → (ℕ → Value) → Type 0
Blend c d x = (i : ℕ) → (x i ≡ c i) ⊎ (x i ≡ d i)

-- both values of each piece are c's or d's
abbrev pub Mixed : {Mark Value : Type 0} → (ℕ → Value) → (ℕ → Value) → Meaning Mark Value → Type 0
Mixed c d m = Blend c d (λ i. settled_value (m.piece i)) × Blend c d (contents m)

-- what the acts make of the piece i where the device settles nothing of its own accord
abbrev pub made : {Act Mark Value : Type 0} → Rules Act Mark Value → List Act → ℕ → Piece Mark Value → Piece Mark Value
made rules [] i c = c
made rules (a ∷ more) i c = made rules more i (rules.makes a i c)

-- d has c's present value, and is settled or has c's mark
abbrev pub Calmer : {Mark Value : Type 0} → Piece Mark Value → Piece Mark Value → Type 0
Calmer c (settled v) = present_value c ≡ v
Calmer (settled x) (unsettled k s p) = ⊥
Calmer (unsettled j r q) (unsettled k s p) = (j ≡ k) × (q ≡ p)

-- the acts lead from contents c to contents d: where everything is settled at c, they leave everything settled at d
abbrev pub Leads : {Act Mark Value : Type 0} → Rules Act Mark Value → (ℕ → Value) → List Act → (ℕ → Value) → Type 0
Leads rules c acts d = (i : ℕ) → made rules acts i (settled (c i)) ≡ settled (d i)

-- no act touches a settled piece of S
abbrev pub Spares : {Act Mark Value : Type 0} → Rules Act Mark Value → (ℕ → Bool) → List Act → Type 0
Spares rules S = Each (λ a. (i : ℕ) → S i ≡ true → (v : _) → rules.makes a i (settled v) ≡ settled v)

-- A device of size u with these pieces can refuse none of the acts but for darkness: each is within the size and meets no
-- unsettled piece where it may not, even if the device settles nothing of its own accord.
abbrev pub Accepts : {Act Mark Value : Type 0} → Rules Act Mark Value → ℕ → (ℕ → Piece Mark Value) → List Act → Type 0
Accepts rules u piece [] = Unit {0}
Accepts rules u piece (a ∷ more) = (rules.beyond u a ≡ false) × (rules.blocked piece a ≡ false) × Accepts rules u (λ i. rules.makes a i (piece i)) more
