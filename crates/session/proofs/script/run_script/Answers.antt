use Rattle.session.proofs.Going.{ended, runs}
use Rattle.session.proofs.script.run_script.Goals as goal

pub returns : goal.returns
returns g c free =
    let all = c.in_ok-out.ensures free in
    runs _ c.args.input.now _ _ c.if-input-gt-MOST_BYTES.false (ended _ c.args.input.now all.0 _ _ _ _ all.1 c.in_ok-give_up.ensures.0)
