use Rattle.std.proofs.Common.{◌≡◌, ℕ, ◌*◌, ◌-◌, ◌/◌, ◌%◌, ◌^◌, arith}
use Rattle.std.proofs.Math.Pow.{pow-lt}
use Rattle.std.proofs.lemmas.Nat.{and_mask}
use Rattle.layout.proofs.field.Goals as goal

pub returns : goal.returns
returns g c =
    let width : ℕ = g.row.WIDTH in
    let lt = pow-lt {i = width} {j = 64} c.requires.narrow in
    let mask : 1 * 2 ^ width % 18446744073709551616 - 1 ≡ 2 ^ width - 1 = omega (arith, lt) in
    rw mask (and_mask (c.args.word / 2 ^ (width * c.args.i)) width)
