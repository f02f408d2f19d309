use Rattle.std.proofs.Common.{◌≡◌, ◌<◌, length, arith}
use Rattle.std.proofs.lemmas.Bool.Decides.{nat_tests}
use Rattle.ringlaws.specs.Layout.{after}
use Rattle.ringlaws.specs.TxnInfo.{taken}
use Rattle.acting.proofs.Laying.{commit_none, commit_broken, commit_ended}
use Rattle.acting.proofs.commit.commit_settings.Goals as goal

pub returns-then-is_empty : goal.returns-then-is_empty
returns-then-is_empty g c =
    let h = c.if-is_empty.ensures in
    let none : length c.args.settings.now ≡ 0 = grind (arith, nat_tests) in
    commit_none c.args.places c.args.tail c.args.settings.now _ none

pub returns-in_err-lay : goal.returns-in_err-lay
returns-in_err-lay g c =
    let h = c.if-is_empty.ensures in
    let some : 0 < length c.args.settings.now = grind (arith, nat_tests) in
    commit_broken c.args.places c.args.tail c.from_residual.result c.args.settings.now some c.from_residual.ensures.1 c.in_err-lay.ensures

pub returns : goal.returns
returns g c =
    let h = c.if-is_empty.ensures in
    let some : 0 < length c.args.settings.now = grind (arith, nat_tests) in
    let end : c.place.result ≡ after c.args.places c.args.tail (taken (length c.args.settings.now)) = cc in
    commit_ended c.args.places c.args.tail c.seal.result c.args.settings.now _ _ some end c.in_ok-lay.ensures c.seal.ensures
