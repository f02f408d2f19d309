use Rattle.std.proofs.Common.{Ok, ap, arith}
use Rattle.checkpointing.proofs.Looking.{read_open, found_below, found_open, found_unit, home_unit_lem}
use Rattle.checkpointing.proofs.read.read_unit.Goals as goal

pub overflow_add-place : goal.overflow_add-place
overflow_add-place g c =
    let b = found_below c.args.ring.places c.args.ring.head c.args.ring.tail c.args.record_number (g.N.Nvm.meaning c.args.nvm.now) c.in_ok-place.field-0 c.in-Some.place
    c.in_ok-place.ensures c.in-Some.is in
    omega (arith, b.0, b.1)

pub load_unit-requires : goal.load_unit-requires
load_unit-requires g c =
    let b = found_below c.args.ring.places c.args.ring.head c.args.ring.tail c.args.record_number (g.N.Nvm.meaning c.args.nvm.now) c.in_ok-place.field-0 c.in-Some.place
    c.in_ok-place.ensures c.in-Some.is in
    omega (arith, b.0, b.1)

pub returns-in_err-place : goal.returns-in_err-place
returns-in_err-place g c B ts ready lt =
    absurd (found_open c.args.ring.places c.args.ring.head c.args.ring.tail c.args.record_number (g.N.Nvm.meaning c.args.nvm.now) B (g.D.Disk.meaning c.args.disk.now) ts ready
    c.in_err-place.field-0.0 c.in_err-place.ensures)

pub returns-in-Some : goal.returns-in-Some
returns-in-Some g c B ts ready lt =
    found_unit c.args.ring.places c.args.ring.head c.args.ring.tail c.args.record_number (g.N.Nvm.meaning c.args.nvm.now) B (g.D.Disk.meaning c.args.disk.now) ts ready
    c.in_ok-place.field-0 c.in-Some.place c.load_unit.result c.in_ok-place.ensures c.in-Some.is c.load_unit.ensures

pub returns-in_err-read : goal.returns-in_err-read
returns-in_err-read g c B ts ready lt =
    let e = c.home_of-home.ensures.0 in
    let w = ready.fit.blocks in
    absurd (read_open (g.D.Disk.meaning c.args.disk.now) c.home_of-home.result.block c.in_err-read.field-0.0 ready.fit.disk_lit (omega (arith, e, w, lt)) c.in_err-read.ensures.0)

pub returns : goal.returns
returns g c B ts ready lt =
    ap Ok (home_unit_lem c.args.ring.places c.args.ring.head c.args.ring.tail c.args.record_number (g.N.Nvm.meaning c.args.nvm.now) B (g.D.Disk.meaning c.args.disk.now) ts ready
    c.in_ok-place.field-0 c.home_of-home.result.block c.read.new.buf c.unit_of.result c.in_ok-place.ensures c.in_default.is
    c.home_of-home.ensures.0 c.in_ok-read.ensures.1 c.unit_of.ensures)
