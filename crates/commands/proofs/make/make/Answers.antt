use Rattle.std.proofs.Common.{replicate, ℤ, sym, subst, w16, SFits, rules}
use Rattle.std.proofs.lemmas.Int.{to_z-of_z}
use Rattle.tile.specs.Tiles.{Made}
use Rattle.joined.specs.declared.record.Joined.TheVariants.{Tile}
use Rattle.commands.specs.declared.command.Draft.{Draft}
use Rattle.commands.specs.Commands.{wanted}
use Rattle.commands.specs.Records.{Fulfils}
use Rattle.commands.proofs.make.make.Goals as goal

pub returns-in_ok-flat-in-Tile : goal.returns-in_ok-flat-in-Tile
returns-in_ok-flat-in-Tile c =
    let t = c.in-Tile in
    let fits : SFits w16 t.level = search rules in
    let made : Made t.column t.row t.plan (replicate 112 t.level) c.in_ok-flat-in-Tile.field-0 =
    subst (λ (z : ℤ). Made t.column t.row t.plan (replicate 112 z) c.in_ok-flat-in-Tile.field-0) (to_z-of_z w16 t.level fits) c.in_ok-flat-in-Tile.ensures in
    let whole = subst (λ (d : Draft). Fulfils (wanted d) (Tile c.in_ok-flat-in-Tile.field-0)) (sym t.is) made in
    subst (Fulfils (wanted c.args.draft)) (sym c.into-record.ensures) whole
