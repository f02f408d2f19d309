use Rattle.std.proofs.Common.{◌≡◌, ◌*◌, ltb, cond, get_or, Some, None, sym, ap, ◌∙◌, rules}
use Rattle.disks.specs.Parts.{present_word}
use Rattle.disks.proofs.contents.Contents.present.Goals as goal

pub returns : goal.returns
returns c =
    let d = c.args.self.now in
    let w = c.args.word in
    let read : c.copied.result ≡ cond (ltb w (512 * d.blocks)) (Some (get_or d.present.items w 0)) None = search rules in
    read ∙ ap (λ x. cond (ltb w (512 * d.blocks)) (Some x) None) (sym (present_word d.settled.items d.present.items d.waiting.items w))
