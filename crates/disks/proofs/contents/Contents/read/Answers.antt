use Rattle.std.proofs.Common.{◌≡◌, ℕ, ◌+◌, ◌*◌, false, List, get_or, sym, ap, ◌∙◌, arith}
use Rattle.std.proofs.lemmas.Bool.Decides.{nat_tests}
use Rattle.disks.specs.Parts.{copied}
use Rattle.disks.proofs.contents.Contents.read.Goals as goal

pub returns : goal.returns
returns c =
    let d = c.args.self.now in
    let lit : d.supply.dark ≡ false = sym c.is_dark.ensures ∙ c.if-is_dark.false in (
      grind (arith, nat_tests, lit, c.if-block-self.false),
      copied d.settled.items d.present.items c.copy_out.new.buf d.waiting.items c.args.block c.copy_out.array_long
          (λ j l. c.copy_out.ensures j l ∙ ap (λ (xs : List ℕ). get_or xs (512 * c.args.block + j) 0) c.as_slice.ensures.value),
    )
