use Rattle.std.proofs.Common.{refl}
use Rattle.engine.proofs.Admitted.{ends}
use Rattle.calling.specs.Seen.{blocks_answer}
use Rattle.device_calls.proofs.Reached.{checkpoint_mounted, stopped, by_names}
use Rattle.device_calls.proofs.checkpoint.checkpoint.Goals as goal

pub returns-in_err-admit : goal.returns-in_err-admit
returns-in_err-admit g c order =
    stopped blocks_answer (λ x. refl) g.met.K.RecordKind.whole (ends g.N.Nvm.meaning g.D.Disk.meaning c.args.engine.now g.met.N.Nvm.ends g.met.D.Disk.ends) c.in_err-admit.field-0.0 c.in_err-admit.ensures
    c.from_residual.result c.from_residual.ensures.1

pub returns : goal.returns
returns g c order =
    let mounted = checkpoint_mounted _ c.args.engine.now.state c.in_ok-admit.ensures in
    by_names (c.checkpoint_call.ensures.checkpoint c.args.engine.now.state _ mounted order) g.met.K.RecordKind.whole (ends g.N.Nvm.meaning g.D.Disk.meaning c.args.engine.now g.met.N.Nvm.ends g.met.D.Disk.ends) refl refl refl refl
