-- A test passed by each element of a list: std's `list_all`. Assumes nothing.
use Rattle.std.specs.Prelude.{Bool, List}
use Rattle.std.specs.List.{list_all}

abbrev pub each : {X : Type 0} → (X → Bool) → List X → Bool
each test xs = list_all test xs
