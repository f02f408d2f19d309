use Rattle.std.proofs.Common.{refl}
use Rattle.engine.proofs.Admitted.{ends, told}
use Rattle.calling.specs.Seen.{done_answer}
use Rattle.device_calls.proofs.Reached.{format_unmounted, stopped, by_names}
use Rattle.device_calls.proofs.format.format.Goals as goal

pub returns-in_err-admit : goal.returns-in_err-admit
returns-in_err-admit g c =
    stopped done_answer (λ x. refl) g.met.K.RecordKind.whole (ends g.N.Nvm.meaning g.D.Disk.meaning c.args.engine.now g.met.N.Nvm.ends g.met.D.Disk.ends) c.in_err-admit.field-0.0 c.in_err-admit.ensures
    c.from_residual.result c.from_residual.ensures.1

pub returns-in_err-format_call : goal.returns-in_err-format_call
returns-in_err-format_call g c =
    let unmounted = format_unmounted _ c.args.engine.now.state c.in_ok-admit.ensures in
    told done_answer (λ x. refl) c.in_err-format_call.field-0.0 c.from_residual-in_err-format_call.result c.from_residual-in_err-format_call.ensures.1
    (by_names (c.in_err-format_call.ensures _) g.met.K.RecordKind.whole (ends g.N.Nvm.meaning g.D.Disk.meaning c.args.engine.now g.met.N.Nvm.ends g.met.D.Disk.ends) unmounted refl unmounted refl)

pub returns : goal.returns
returns g c =
    let unmounted = format_unmounted _ c.args.engine.now.state c.in_ok-admit.ensures in
    by_names (c.in_ok-format_call.ensures _) g.met.K.RecordKind.whole (ends g.N.Nvm.meaning g.D.Disk.meaning c.args.engine.now g.met.N.Nvm.ends g.met.D.Disk.ends) unmounted refl unmounted c.clear.ensures
