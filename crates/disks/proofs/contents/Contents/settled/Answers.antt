use Rattle.std.proofs.Common.{◌≡◌, ◌*◌, ◌/◌, true, false, ltb, cond, get_or, Some, None, sym, ap, ◌∙◌, rules}
use Rattle.disks.specs.Parts.{settled_word}
use Rattle.disks.proofs.contents.Contents.settled.Goals as goal

pub returns-then-branch : goal.returns-then-branch
returns-then-branch c =
    let d = c.args.self.now in
    let w = c.args.word in
    let mark : get_or d.waiting.items (w / 64) false ≡ true = search rules in
    let read : c.copied.result ≡ cond (ltb w (512 * d.blocks)) (Some (get_or d.settled.items w 0)) None = search rules in
    read ∙ ap (λ x. cond (ltb w (512 * d.blocks)) (Some x) None)
    (sym (settled_word d.settled.items d.present.items d.waiting.items w ∙ ap (λ t. cond t (get_or d.settled.items w 0) (get_or d.present.items w 0)) mark))

pub returns-else-branch : goal.returns-else-branch
returns-else-branch c =
    let d = c.args.self.now in
    let w = c.args.word in
    let mark : get_or d.waiting.items (w / 64) false ≡ false = search rules in
    let read : c.copied-else-branch.result ≡ cond (ltb w (512 * d.blocks)) (Some (get_or d.present.items w 0)) None = search rules in
    read ∙ ap (λ x. cond (ltb w (512 * d.blocks)) (Some x) None)
    (sym (settled_word d.settled.items d.present.items d.waiting.items w ∙ ap (λ t. cond t (get_or d.settled.items w 0) (get_or d.present.items w 0)) mark))
