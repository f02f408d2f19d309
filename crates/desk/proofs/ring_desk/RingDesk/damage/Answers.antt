use Rattle.std.proofs.Common.{◌≤◌, length, sym, refl, arith}
use Rattle.std.proofs.lemmas.List.{set_past}
use Rattle.std.proofs.lemmas.Bool.{cond-false, le-ltb}
use Rattle.desk.proofs.ring_desk.RingDesk.damage.Goals as goal

pub returns-then-word-len : goal.returns-then-word-len
returns-then-word-len c =
    let d = c.args.self.now in
    let past : length d.image.items ≤ c.args.word = omega (arith, c.if-word-len.true, c.len.ensures, d.image.ok.0) in
    let beyond : 1056 ≤ c.args.word = omega (arith, c.if-word-len.true, c.len.ensures, d.long) in
    record { answer = sym (cond-false _ _ _ (le-ltb c.args.word 1056 beyond)); image = sym (set_past d.image.items c.args.word c.args.value past); waiting = refl }
