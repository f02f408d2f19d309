-- A closed example: the history of two masts, with no kind and no record left open. Assumes nothing.
use Rattle.std.specs.Prelude.{◌≡◌}
use Rattle.mast.specs.declared.record.Mast.{Mast}
use Rattle.joined.specs.declared.record.Joined.{Joined}
use Rattle.joined.specs.declared.record.Joined.TheVariants.{Mast as aMast}
use Rattle.joined.specs.Joins.{joined_unit, joined_reads}
use Rattle.calls.specs.Plans.{Kind}
use Rattle.order.specs.Order.{kind_of}
use Rattle.histories.specs.History.{History}

-- the kind of tiles and masts
abbrev pub tiles_and_masts : Kind Joined
tiles_and_masts = kind_of joined_unit joined_reads

-- two masts that differ, and their history
pub record MastHistory : Type 0 where
  pub one : Mast
  pub two : Mast
  pub differ : aMast one ≡ aMast two → ⊥
  pub history : History tiles_and_masts (aMast one) (aMast two)
