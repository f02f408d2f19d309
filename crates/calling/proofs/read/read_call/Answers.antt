use Rattle.std.proofs.Common.{◌/◌, ◌<◌, arith}
use Rattle.calling.proofs.Looking.{table_unit}
use Rattle.calling.proofs.read.read_call.Goals as goal

pub returns : goal.returns
returns g c state list mounted order own =
    let nvm = g.N.Nvm.meaning c.args.nvm.now in
    let disk = g.D.Disk.meaning c.args.disk.now in
    let at = c.in_ok-ring.ensures in
    let size = c.blocks-blocks.ensures in
    let below = c.if-number-blocks.false in
    let lt : c.args.number / 16 < disk.size = omega (arith, size, below) in
    table_unit nvm disk state list c.args.number c.in_ok-check_power.ensures.0 c.in_ok-check_power.ensures.1 lt
    mounted order c.args.own c.in_default.is own c.in_ok-ring.ring.places c.in_ok-ring.ring.head c.in_ok-ring.ring.tail at.0 at.1 at.2
    c.read_unit.result c.read_unit.ensures
