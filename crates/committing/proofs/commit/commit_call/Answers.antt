use Rattle.std.proofs.Common.{sym, arith}
use Rattle.device.specs.Words.{words_of}
use Rattle.ringlaws.specs.Layout.{head_of, tail_of}
use Rattle.order.specs.Order.{kind_of}
use Rattle.committing.proofs.Committing.{ring_parts, fits, full, committed, cut, handed_on_lem}
use Rattle.committing.proofs.commit.commit_call.Goals as goal

pub returns-in_err-then : goal.returns-in_err-then
returns-in_err-then g c order =
    let kind = kind_of g.K.RecordKind.unit g.K.RecordKind.reads in
    let nvm = g.N.Nvm.meaning c.args.nvm.now in
    let disk = g.D.Disk.meaning c.args.disk.now in
    let at = c.in_ok-ring.ensures in
    handed_on_lem kind _ _ _ _ c.in_err-then.field-0.0 c.from_residual-in_err-then.result c.from_residual-in_err-then.ensures.1
    (full kind nvm disk c.args.settings.now c.in_ok-check_power.ensures.0 c.in_ok-check_power.ensures.1 order
    c.in_ok-ring.ring.places at.0 _ (c.in_err-then.ensures (words_of nvm) at.1 at.2))

pub commit_settings-requires : goal.commit_settings-requires
commit_settings-requires g c =
    let nvm = g.N.Nvm.meaning c.args.nvm.now in
    let at = c.in_ok-ring.ensures in
    let room = c.in_ok-then.ensures (words_of nvm) at.1 at.2 in
    let parts = ring_parts c.in_ok-ring.ring.places (head_of (words_of nvm)) (tail_of (words_of nvm)) room.ring in
    let below = parts.2 in
    let is = at.2 in
    record {
      most = parts.0;
      tail = omega (arith, below, is);
      few = room.few;
      fits = fits c.in_ok-ring.ring.places (words_of nvm) c.args.settings.now c.in_ok-then.then room;
    }

pub returns-in_err-commit_settings : goal.returns-in_err-commit_settings
returns-in_err-commit_settings g c order =
    let kind = kind_of g.K.RecordKind.unit g.K.RecordKind.reads in
    let nvm = g.N.Nvm.meaning c.args.nvm.now in
    let disk = g.D.Disk.meaning c.args.disk.now in
    let at = c.in_ok-ring.ensures in
    let room = c.in_ok-then.ensures (words_of nvm) at.1 at.2 in
    handed_on_lem kind _ _ _ _ c.in_err-commit_settings.field-0.0 c.from_residual-in_err-commit_settings.result c.from_residual-in_err-commit_settings.ensures.1
    (cut kind nvm disk c.args.settings.now c.in_ok-check_power.ensures.0 c.in_ok-check_power.ensures.1 order
    (record { nvm = g.met.N.Nvm.ends c.args.nvm.now; disk = g.met.D.Disk.ends c.args.disk.now })
    c.in_ok-ring.ring.places c.in_ok-then.then at.0 room (g.N.Nvm.meaning c.commit_settings.new.nvm) _
    (c.in_err-commit_settings.ensures disk (words_of nvm) (sym at.2)))

pub returns : goal.returns
returns g c order =
    let kind = kind_of g.K.RecordKind.unit g.K.RecordKind.reads in
    let nvm = g.N.Nvm.meaning c.args.nvm.now in
    let disk = g.D.Disk.meaning c.args.disk.now in
    let at = c.in_ok-ring.ensures in
    let room = c.in_ok-then.ensures (words_of nvm) at.1 at.2 in
    committed kind nvm disk c.args.settings.now c.in_ok-check_power.ensures.0 c.in_ok-check_power.ensures.1 order
    (record { nvm = g.met.N.Nvm.ends c.args.nvm.now; disk = g.met.D.Disk.ends c.args.disk.now })
    c.in_ok-ring.ring.places c.in_ok-then.then at.0 room (g.N.Nvm.meaning c.commit_settings.new.nvm)
    (c.in_ok-commit_settings.ensures disk (words_of nvm) (sym at.2))
