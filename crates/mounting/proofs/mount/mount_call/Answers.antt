use Rattle.std.proofs.Common.{ℕ, ◌-◌, true, false, [], sym, ap, ◌∙◌}
use Rattle.device.specs.Words.{words_of}
use Rattle.calls.specs.declared.state.State.TheVariants.{Unmounted}
use Rattle.calls.specs.Plans.{mount_refusal}
use Rattle.order.specs.Order.{EndsThere, kind_of}
use Rattle.calling.specs.Seen.{seen}
use Rattle.calling.proofs.Stepping.{sizes}
use Rattle.mounting.proofs.Mounting.{handed_on_lem, unfit, settling_stopped, still_lit, has_places, few_places, contents_refused, mounted}
use Rattle.mounting.proofs.mount.mount_call.Goals as goal

pub returns-then-not-fit_sizes : goal.returns-then-not-fit_sizes
returns-then-not-fit_sizes g c list =
    unfit (kind_of g.K.RecordKind.unit g.K.RecordKind.reads) (g.N.Nvm.meaning c.args.nvm.now) (g.D.Disk.meaning c.args.disk.now) list
    c.in_ok-check_power.ensures.0 c.in_ok-check_power.ensures.1
    (sizes _ _ _ _ false c.units-units.ensures c.blocks-blocks.ensures (sym c.fit_sizes.ensures ∙ c.if-not-fit_sizes.true))

pub returns-in_err-settle_both : goal.returns-in_err-settle_both
returns-in_err-settle_both g c list =
    handed_on_lem (kind_of g.K.RecordKind.unit g.K.RecordKind.reads) _ _ _ list c.in_err-settle_both.field-0.0 c.from_residual-in_err-settle_both.result c.from_residual-in_err-settle_both.ensures.1
    (settling_stopped (kind_of g.K.RecordKind.unit g.K.RecordKind.reads) (g.N.Nvm.meaning c.args.nvm.now) (g.D.Disk.meaning c.args.disk.now) list
    c.in_ok-check_power.ensures.0 c.in_ok-check_power.ensures.1
    (record { nvm = g.met.N.Nvm.ends c.args.nvm.now; disk = g.met.D.Disk.ends c.args.disk.now })
    (sizes _ _ _ _ true c.units-units.ensures c.blocks-blocks.ensures (sym c.fit_sizes.ensures ∙ c.if-not-fit_sizes.false))
    _ _ _ c.in_err-settle_both.ensures)

pub check_contents-requires : goal.check_contents-requires
check_contents-requires g c =
    let kind = kind_of g.K.RecordKind.unit g.K.RecordKind.reads in
    let nvm = g.N.Nvm.meaning c.args.nvm.now in
    let disk = g.D.Disk.meaning c.args.disk.now in
    let lit = c.in_ok-check_power.ensures.0 in
    let also = c.in_ok-check_power.ensures.1 in
    let ends : EndsThere (seen nvm disk Unmounted []) = record { nvm = g.met.N.Nvm.ends c.args.nvm.now; disk = g.met.D.Disk.ends c.args.disk.now } in
    let fit = sizes _ _ _ _ true c.units-units.ensures c.blocks-blocks.ensures (sym c.fit_sizes.ensures ∙ c.if-not-fit_sizes.false) in
    record {
      lit = still_lit kind nvm disk [] lit also ends fit _ _ c.in_ok-settle_both.ensures;
      size = has_places kind nvm disk [] lit also ends fit _ _ c.in_ok-settle_both.ensures _ c.units-units.ensures;
      most = few_places kind nvm disk [] lit also ends fit _ _ c.in_ok-settle_both.ensures _ c.units-units.ensures;
    }

pub returns-in_err-ring : goal.returns-in_err-ring
returns-in_err-ring g c list =
    let kind = kind_of g.K.RecordKind.unit g.K.RecordKind.reads in
    let nvm = g.N.Nvm.meaning c.args.nvm.now in
    let disk = g.D.Disk.meaning c.args.disk.now in
    let lit = c.in_ok-check_power.ensures.0 in
    let also = c.in_ok-check_power.ensures.1 in
    let fit = sizes _ _ _ _ true c.units-units.ensures c.blocks-blocks.ensures (sym c.fit_sizes.ensures ∙ c.if-not-fit_sizes.false) in
    handed_on_lem kind _ _ _ list c.in_err-ring.field-0.0 c.from_residual-in_err-ring.result c.from_residual-in_err-ring.ensures.1
    (contents_refused kind nvm disk list lit also
    (record { nvm = g.met.N.Nvm.ends c.args.nvm.now; disk = g.met.D.Disk.ends c.args.disk.now })
    fit _ _ c.in_ok-settle_both.ensures _ _ (ap (λ (i : ℕ). i - 1) c.units-units.ensures) c.blocks-blocks.ensures _ c.in_err-ring.ensures)

pub returns : goal.returns
returns g c list =
    let kind = kind_of g.K.RecordKind.unit g.K.RecordKind.reads in
    let nvm = g.N.Nvm.meaning c.args.nvm.now in
    let disk = g.D.Disk.meaning c.args.disk.now in
    let lit = c.in_ok-check_power.ensures.0 in
    let also = c.in_ok-check_power.ensures.1 in
    let fit = sizes _ _ _ _ true c.units-units.ensures c.blocks-blocks.ensures (sym c.fit_sizes.ensures ∙ c.if-not-fit_sizes.false) in
    let at = c.in_ok-ring.ensures in
    mounted kind nvm disk list lit also
    (record { nvm = g.met.N.Nvm.ends c.args.nvm.now; disk = g.met.D.Disk.ends c.args.disk.now })
    fit _ _ c.in_ok-settle_both.ensures c.in_ok-ring.ring.places _ _ _ (at.1 ∙ ap (λ (i : ℕ). i - 1) c.units-units.ensures) c.blocks-blocks.ensures at.2 at.3
    (ap (λ (i : ℕ). mount_refusal i c.blocks-blocks.result (words_of (g.N.Nvm.meaning c.settle_both.new.nvm))) at.1 ∙ at.0)
    _ _ c.checkpoint_devices.result c.checkpoint_devices.ensures.ran c.checkpoint_devices.ensures.counted
