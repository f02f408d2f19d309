use Rattle.std.proofs.Common.{true, false, sym, ◌∙◌}
use Rattle.order.specs.Order.{kind_of}
use Rattle.calling.proofs.Stepping.{sizes, format_ran, format_refused_lem, format_stepped}
use Rattle.calling.proofs.format.format_call.Goals as goal

pub returns-then-not-fit_sizes : goal.returns-then-not-fit_sizes
returns-then-not-fit_sizes g c list =
    format_refused_lem (kind_of g.K.RecordKind.unit g.K.RecordKind.reads) (g.N.Nvm.meaning c.args.nvm.now) (g.D.Disk.meaning c.args.disk.now) list
    c.in_ok-check_power.ensures.0 c.in_ok-check_power.ensures.1
    (sizes _ _ _ _ false c.units-units.ensures c.blocks-blocks.ensures (sym c.fit_sizes.ensures ∙ c.if-not-fit_sizes.true))

pub returns : goal.returns
returns g c list =
    format_stepped (kind_of g.K.RecordKind.unit g.K.RecordKind.reads) (g.N.Nvm.meaning c.args.nvm.now) (g.D.Disk.meaning c.args.disk.now) list
    c.in_ok-check_power.ensures.0 c.in_ok-check_power.ensures.1
    (sizes _ _ _ _ true c.units-units.ensures c.blocks-blocks.ensures (sym c.fit_sizes.ensures ∙ c.if-not-fit_sizes.false))
    (record { nvm = g.met.N.Nvm.ends c.args.nvm.now; disk = g.met.D.Disk.ends c.args.disk.now })
    (g.N.Nvm.meaning c.format_devices.new.nvm) (g.D.Disk.meaning c.format_devices.new.disk) c.format_devices.result
    (format_ran _ _ _ _ _ _ c.format_devices.result c.units-units.ensures c.blocks-blocks.ensures c.format_devices.ensures)
