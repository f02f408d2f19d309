use Rattle.std.proofs.Common.{sym, refl}
use Rattle.engine.proofs.Admitted.{ends, told}
use Rattle.calling.specs.Seen.{used_answer}
use Rattle.device_calls.proofs.Reached.{commit_open, stopped, by_names, ordered}
use Rattle.device_calls.proofs.commit.commit.Goals as goal

pub returns-in_err-admit : goal.returns-in_err-admit
returns-in_err-admit g c order =
    stopped used_answer (λ x. refl) g.met.K.RecordKind.whole (ends g.N.Nvm.meaning g.D.Disk.meaning c.args.engine.now g.met.N.Nvm.ends g.met.D.Disk.ends) c.in_err-admit.field-0.0 c.in_err-admit.ensures
    c.from_residual.result c.from_residual.ensures.1

pub returns-in_err-used : goal.returns-in_err-used
returns-in_err-used g c order =
    let opened = commit_open _ c.args.engine.now.state c.in_ok-admit.ensures in
    let list = sym c.as_slice.ensures in
    told used_answer (λ x. refl) c.in_err-used.field-0.0 c.from_residual-in_err-used.result c.from_residual-in_err-used.ensures.1
    (by_names (c.in_err-used.ensures (ordered opened list ∣ order ∣₁)) g.met.K.RecordKind.whole (ends g.N.Nvm.meaning g.D.Disk.meaning c.args.engine.now g.met.N.Nvm.ends g.met.D.Disk.ends) opened list opened list)

pub returns : goal.returns
returns g c order =
    let opened = commit_open _ c.args.engine.now.state c.in_ok-admit.ensures in
    let list = sym c.as_slice.ensures in
    by_names (c.in_ok-used.ensures (ordered opened list ∣ order ∣₁)) g.met.K.RecordKind.whole (ends g.N.Nvm.meaning g.D.Disk.meaning c.args.engine.now g.met.N.Nvm.ends g.met.D.Disk.ends) opened list refl c.clear.ensures
