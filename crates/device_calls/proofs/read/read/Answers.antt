use Rattle.std.proofs.Common.{Some, None, sym, refl}
use Rattle.order.specs.Order.{kind_of}
use Rattle.engine.specs.Machine.{machine}
use Rattle.engine.proofs.Admitted.{ends, told}
use Rattle.device_calls.specs.Answers.{read_answer}
use Rattle.device_calls.proofs.Reached.{stopped, read_refused, read_absent, read_found}
use Rattle.device_calls.proofs.read.read.Goals as goal

pub returns-in_err-admit : goal.returns-in_err-admit
returns-in_err-admit g c order =
    stopped read_answer (λ x. refl) g.met.K.RecordKind.whole (ends g.N.Nvm.meaning g.D.Disk.meaning c.args.engine.now g.met.N.Nvm.ends g.met.D.Disk.ends) c.in_err-admit.field-0.0 c.in_err-admit.ensures
    c.from_residual.result c.from_residual.ensures.1

pub returns-in_err-unit : goal.returns-in_err-unit
returns-in_err-unit g c order =
    told read_answer (λ x. refl) c.in_err-unit.field-0.0 c.from_residual-in_err-unit.result c.from_residual-in_err-unit.ensures.1
    (read_refused (kind_of g.K.RecordKind.unit g.K.RecordKind.reads) g.met.K.RecordKind.whole (machine g.N.Nvm.meaning g.D.Disk.meaning c.args.engine.now) (ends g.N.Nvm.meaning g.D.Disk.meaning c.args.engine.now g.met.N.Nvm.ends g.met.D.Disk.ends) c.args.number
    c.in_ok-admit.ensures ∣ order ∣₁ _ (λ mounted o. c.in_err-unit.ensures _ _ mounted o c.unit_of-own.ensures))

pub returns-then-all_zero : goal.returns-then-all_zero
returns-then-all_zero g c order =
    read_absent (kind_of g.K.RecordKind.unit g.K.RecordKind.reads) g.met.K.RecordKind.whole (machine g.N.Nvm.meaning g.D.Disk.meaning c.args.engine.now) (ends g.N.Nvm.meaning g.D.Disk.meaning c.args.engine.now g.met.N.Nvm.ends g.met.D.Disk.ends) c.args.number
    c.in_ok-admit.ensures ∣ order ∣₁ c.in_ok-unit.unit (λ mounted o. c.in_ok-unit.ensures _ _ mounted o c.unit_of-own.ensures) (sym c.if-all_zero.ensures)

pub returns-in-Some : goal.returns-in-Some
returns-in-Some g c order =
    read_found (kind_of g.K.RecordKind.unit g.K.RecordKind.reads) g.met.K.RecordKind.whole (machine g.N.Nvm.meaning g.D.Disk.meaning c.args.engine.now) (ends g.N.Nvm.meaning g.D.Disk.meaning c.args.engine.now g.met.N.Nvm.ends g.met.D.Disk.ends) c.args.number
    c.in_ok-admit.ensures ∣ order ∣₁ c.in_ok-unit.unit (Some c.in-Some.value) (λ mounted o. c.in_ok-unit.ensures _ _ mounted o c.unit_of-own.ensures) (sym c.if-all_zero.ensures) c.in-Some.ensures

pub returns-in-None : goal.returns-in-None
returns-in-None g c order =
    read_found (kind_of g.K.RecordKind.unit g.K.RecordKind.reads) g.met.K.RecordKind.whole (machine g.N.Nvm.meaning g.D.Disk.meaning c.args.engine.now) (ends g.N.Nvm.meaning g.D.Disk.meaning c.args.engine.now g.met.N.Nvm.ends g.met.D.Disk.ends) c.args.number
    c.in_ok-admit.ensures ∣ order ∣₁ c.in_ok-unit.unit None (λ mounted o. c.in_ok-unit.ensures _ _ mounted o c.unit_of-own.ensures) (sym c.if-all_zero.ensures) c.in-None.ensures
