use Rattle.std.proofs.Common.{List, ℕ, Bor, ap, ◌∙◌}
use Rattle.lines.specs.Pieces.{fields_of}
use Rattle.lines.proofs.Found.{field_or}
use Rattle.lines.proofs.fields.field_at.Goals as goal

pub returns : goal.returns
returns c = ap (λ (r : Bor (List ℕ)). r.now) c.unwrap_or.ensures ∙ field_or c.field.result _ (fields_of c.args.line.now) c.args.k c.field.ensures
