use Rattle.calls.specs.declared.state.State.TheVariants.{Idle}
use Rattle.order.specs.Order.{kind_of}
use Rattle.calling.proofs.Mounted.{ended, count, checkpoint_stepped, close_stepped, idle_mounted}
use Rattle.calling.proofs.checkpoint.checkpoint_call.Goals as goal

pub returns : goal.returns
returns g c =
    let nvm = g.N.Nvm.meaning c.args.nvm.now in
    let disk = g.D.Disk.meaning c.args.disk.now in
    let n = g.N.Nvm.meaning c.checkpoint_devices.new.nvm in
    let d = g.D.Disk.meaning c.checkpoint_devices.new.disk in
    let kind = kind_of g.K.RecordKind.unit g.K.RecordKind.reads in
    let lit = c.in_ok-check_power.ensures.0 in
    let also = c.in_ok-check_power.ensures.1 in
    let at = c.in_ok-ring.ensures in
    let r = c.checkpoint_devices.result in
    record {
      checkpoint = λ state list mounted order.
          checkpoint_stepped kind nvm disk state list lit also mounted n d r
          (ended nvm disk state list lit also mounted order _ _ _ _ at.0 c.blocks-blocks.ensures at.1 at.2 n d r c.checkpoint_devices.ensures.ran c.checkpoint_devices.ensures.counted)
          (count nvm disk state list lit also mounted order _ _ _ _ at.0 c.blocks-blocks.ensures at.1 at.2 n d r c.checkpoint_devices.ensures.ran c.checkpoint_devices.ensures.counted);
      close = λ list order.
          close_stepped kind nvm disk list lit also n d r
          (ended nvm disk Idle list lit also idle_mounted order _ _ _ _ at.0 c.blocks-blocks.ensures at.1 at.2 n d r c.checkpoint_devices.ensures.ran c.checkpoint_devices.ensures.counted);
    }
