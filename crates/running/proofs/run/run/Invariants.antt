use Rattle.std.proofs.Common.{◌≡◌, ◌≤◌, length, take, vec_items, vec_len, vec_capacity}
use Rattle.order.specs.Order.{kind_of}
use Rattle.engine.specs.Machine.{machine}
use Rattle.promise.specs.Told.{Performs}
use Rattle.running.proofs.run.run.Given as goal

-- so far each request has its answer, in order, with room for those that are left
abbrev pub invariant-loop-request : goal.invariant-loop-request
invariant-loop-request g l =
    (vec_len l.answers ≡ l.request-index) × (length l.requests ≤ vec_capacity l.answers)
    × Performs (kind_of g.K.RecordKind.unit g.K.RecordKind.reads)
    (machine g.N.Nvm.meaning g.D.Disk.meaning l.initial.engine)
    (take l.request-index l.requests) (vec_items l.answers)
    (machine g.N.Nvm.meaning g.D.Disk.meaning l.engine)
