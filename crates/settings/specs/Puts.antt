-- What is set in a transaction, and what setting one more record does to it. Assumes nothing.
use Rattle.std.specs.Prelude.{◌≡◌, ℕ, List, Some, None, Ok, Err, vec_items, Result}
use Rattle.refusal.specs.declared.reason.Refusal.{Refusal}
use Rattle.ringlaws.specs.TxnInfo.{Transaction}
use Rattle.calls.specs.Plans.{set_refusal, put}
use Rattle.settings.specs.declared.kept.Settings.{Settings}

-- the settings as a transaction
abbrev pub list_of : Settings → Transaction
list_of s = vec_items s.list

-- Record r is set to this unit on a disk of B blocks; or it is refused, and the settings stay.
abbrev pub Puts : ℕ → Transaction → ℕ → List ℕ → Result (Unit {0}) Refusal → Transaction → Type 0
Puts B t r u (Ok done) after = (set_refusal B t r ≡ None) × (after ≡ put t r u)
Puts B t r u (Err e) after = (set_refusal B t r ≡ Some e) × (after ≡ t)
