-- Runs of acts on a machine of any kind. `Step m a n` says that the act a was performed, `Refused m a e n` that it was refused
-- with e. Assumes nothing.
use Rattle.std.specs.Prelude.{◌≡◌, ℕ, zero, suc, Bool, false, ◌||◌, List, [], ◌∷◌, ◌++◌, Ok, Err, Result}

-- all the acts were performed, in order
pub data Performed {M A : Type 0} (Step : M → A → M → Type 0) : M → List A → M → Type 0 where
  done : {m : M} → Performed Step m [] m
  then : {m p n : M} {a : A} {more : List A} → Step m a p → Performed Step p more n → Performed Step m (a ∷ more) n

-- The acts before some act were performed, and that act was not: `Stops middle act n` says what became of it. A list without
-- acts cannot be stopped.
pub record Stopped {M A : Type 0} (Step Stops : M → A → M → Type 0) (m : M) (acts : List A) (n : M) : Type 0 where
  pub front : List A
  pub act : A
  pub back : List A
  pub parts : acts ≡ front ++ act ∷ back
  pub middle : M
  pub ran : Performed Step m front middle
  pub stops : Stops middle act n

-- the run was stopped by an act that was refused with e
abbrev pub Halted : {M A E : Type 0} → (M → A → M → Type 0) → (M → A → E → M → Type 0) → M → List A → E → M → Type 0
Halted Step Refused m acts e n = Stopped Step (λ k a p. Refused k a e p) m acts n

-- a call ran the acts: all of them, or up to the first that was refused
abbrev pub Ran : {M A E V : Type 0} → (M → A → M → Type 0) → (M → A → E → M → Type 0) → M → List A → Result V E → M → Type 0
Ran Step Refused m acts (Ok v) n = Performed Step m acts n
Ran Step Refused m acts (Err e) n = Halted Step Refused m acts e n

-- the lists f 0, f 1, .. f (n - 1), one after another
unfoldable pub each_of : {A : Type 0} → (ℕ → List A) → ℕ → List A
each_of f zero = []
each_of f (suc n) = each_of f n ++ f n

-- P holds of each of the acts
abbrev pub Each : {A : Type 0} → (A → Type 0) → List A → Type 0
Each P [] = Unit {0}
Each P (a ∷ more) = P a × Each P more

-- whether some of the acts passes the test
abbrev pub some : {A : Type 0} → (A → Bool) → List A → Bool
some test [] = false
some test (a ∷ more) = test a || some test more
