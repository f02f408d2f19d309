-- What a read of a mounted store comes to, before the unit is read as a record. Assumes nothing.
use Rattle.std.specs.Prelude.{ℕ, cond, List, Ok, Err, Result, nat_lt}
use Rattle.refusal.specs.declared.reason.Refusal.{Refusal}
use Rattle.refusal.specs.declared.reason.Refusal.TheVariants.{Dark, NoSuchRecord}
use Rattle.crash.specs.Pair.{is_dark}
use Rattle.ringlaws.specs.Layout.{records_of}
use Rattle.ringlaws.specs.Newest.{lay}
use Rattle.calls.specs.Plans.{Machine, blocks_of, table_of}

-- the unit of record r: the open transaction laid over the table; darkness is asked first, then the number
abbrev pub unit_read : Machine → ℕ → Result (List ℕ) Refusal
unit_read m r =
    cond (is_dark m.devices) (Err Dark) (cond (nat_lt r (records_of (blocks_of m))) (Ok (lay m.list (table_of m) r)) (Err NoSuchRecord))
