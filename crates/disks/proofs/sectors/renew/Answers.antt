use Rattle.std.proofs.Common.{ℕ, ◌-◌, ◌*◌, ◌/◌, cond, eqb, List, get_or, refl, ap, ◌∙◌, arith}
use Rattle.disks.proofs.Parted.{block_put, block_taken}
use Rattle.disks.proofs.sectors.renew.Goals as goal

pub returns : goal.returns
returns c =
    let b = c.args.block in
    record {
      settled = λ w. block_put c.args.settled.now c.copy_from_slice.new.self b c.requires.0 (c.copy_from_slice.ensures.len ∙ omega arith) w
          ∙ ap (λ (xs : List ℕ). cond (eqb (w / 512) b) (get_or xs (w - 512 * b) 0) (get_or c.args.settled.now w 0)) c.copy_from_slice.ensures.after
          ∙ block_taken c.args.present.now b w (eqb (w / 512) b) (get_or c.args.settled.now w 0) refl;
      present = λ w. block_put c.args.present.now c.copy_from_slice-2.new.self b c.requires.1 (c.copy_from_slice-2.ensures.len ∙ omega arith) w
          ∙ ap (λ (xs : List ℕ). cond (eqb (w / 512) b) (get_or xs (w - 512 * b) 0) (get_or c.args.present.now w 0)) c.copy_from_slice-2.ensures.after;
    }
