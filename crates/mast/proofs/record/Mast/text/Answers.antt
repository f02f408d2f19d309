use Rattle.std.proofs.Common.{IsUtf8, sym, subst, rules}
use Rattle.mast.specs.Masts.{name_of}
use Rattle.mast.specs.Units.{name_text}
use Rattle.mast.proofs.record.Mast.text.Goals as goal

pub unwrap-requires : goal.unwrap-requires
unwrap-requires c =
    let text = subst IsUtf8 (sym c.name.ensures) (name_text (name_of c.args.self.now) c.args.self.now.named) in
    search rules
