use Rattle.std.proofs.Common.{refl}
use Rattle.engine.proofs.Admitted.{ends, told}
use Rattle.calling.specs.Seen.{blocks_answer}
use Rattle.device_calls.proofs.Reached.{mount_unmounted, stopped, by_names}
use Rattle.device_calls.proofs.mount.mount.Goals as goal

pub returns-in_err-admit : goal.returns-in_err-admit
returns-in_err-admit g c =
    stopped blocks_answer (λ x. refl) g.met.K.RecordKind.whole (ends g.N.Nvm.meaning g.D.Disk.meaning c.args.engine.now g.met.N.Nvm.ends g.met.D.Disk.ends) c.in_err-admit.field-0.0 c.in_err-admit.ensures
    c.from_residual.result c.from_residual.ensures.1

pub returns-in_err-blocks : goal.returns-in_err-blocks
returns-in_err-blocks g c =
    let unmounted = mount_unmounted _ c.args.engine.now.state c.in_ok-admit.ensures in
    told blocks_answer (λ x. refl) c.in_err-blocks.field-0.0 c.from_residual-in_err-blocks.result c.from_residual-in_err-blocks.ensures.1
    (by_names (c.in_err-blocks.ensures _) g.met.K.RecordKind.whole (ends g.N.Nvm.meaning g.D.Disk.meaning c.args.engine.now g.met.N.Nvm.ends g.met.D.Disk.ends) unmounted refl unmounted refl)

pub returns : goal.returns
returns g c =
    let unmounted = mount_unmounted _ c.args.engine.now.state c.in_ok-admit.ensures in
    by_names (c.in_ok-blocks.ensures _) g.met.K.RecordKind.whole (ends g.N.Nvm.meaning g.D.Disk.meaning c.args.engine.now g.met.N.Nvm.ends g.met.D.Disk.ends) unmounted refl refl refl
