-- A script on a new store of fresh devices. Assumes nothing.
use Rattle.std.specs.Prelude.{ℕ, false, List, [], replicate}
use Rattle.device.specs.Pieces.{settled}
use Rattle.calls.specs.declared.state.State.TheVariants.{Unmounted}
use Rattle.calls.specs.Plans.{Machine}
use Rattle.calling.specs.Seen.{seen}
use Rattle.promise.specs.History.{unknown, Known}
use Rattle.session.specs.Said.{tiles_and_masts}
use Rattle.session.specs.Lines.{Runs}

-- a ring of 32 places and a disk of 2 blocks, with power, every word and sector settled at zero; the store is unmounted
abbrev pub fresh : Machine
fresh =
    seen (record { size = 33; dark = false; piece = λ w. settled 0 })
    (record { size = 2; dark = false; piece = λ s. settled (replicate 64 0) })
    Unmounted []

-- What a script prints there. Nothing is known of a fresh store before its format, so that the promise has no premise left: it holds
-- from the script's own accepted format on.
pub record RunsFresh (input output : List ℕ) : Type 0 where
  pub after : Machine
  pub runs : Runs fresh input output after
  pub known : Known tiles_and_masts unknown fresh
