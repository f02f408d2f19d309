use Rattle.std.proofs.Common.{◌≡◌, ◌+◌, ◌≤◌, false, length, vec_items}
use Rattle.session.specs.Machines.{machine_of}
use Rattle.session.specs.Lines.{Progress}
use Rattle.session.proofs.script.run_lines.Given as goal

-- the lines so far are done, and each has taken a byte at least
abbrev pub invariant-loop-split : goal.invariant-loop-split
invariant-loop-split g l =
    (l.number + length l.rest ≤ length l.input)
    × (l.initial.session.held ≡ false → Progress
    (machine_of g.N.Nvm.meaning g.D.Disk.meaning l.initial.session)
    l.input l.rest l.number (vec_items l.out)
    (machine_of g.N.Nvm.meaning g.D.Disk.meaning l.session)
    l.session.held)

abbrev pub decreases-loop-split : goal.decreases-loop-split
decreases-loop-split g l = length l.rest
