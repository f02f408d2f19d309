use Rattle.std.proofs.Common.{rules, tests, eqb, None, Some, ◌∙◌}
use Rattle.std.proofs.lemmas.Iterator.{YieldsList-from_slice}
use Rattle.std.proofs.lemmas.Iterator.Search.{find_from_yields_List}
use Rattle.ringlaws.specs.declared.setting.Setting.{Setting}
use Rattle.settings.specs.Puts.{list_of}
use Rattle.settings.proofs.Positions.{unit_found}
use Rattle.settings.proofs.kept.Settings.unit_of.Goals as goal

pub returns-in_err-setting : goal.returns-in_err-setting
returns-in_err-setting c =
    c.from_residual.ensures ∙ unit_found c.args.number (list_of c.args.self.now) c.find.result None
    (find_from_yields_List (λ (s : Setting). eqb s.number c.args.number) _ _ _ c.find.ensures.ran (YieldsList-from_slice (list_of c.args.self.now) cc) (λ x b q k. search (rules, tests)))
    c.in_err-setting.was

pub returns : goal.returns
returns c =
    unit_found c.args.number (list_of c.args.self.now) c.find.result (Some c.in_ok-setting.setting)
    (find_from_yields_List (λ (s : Setting). eqb s.number c.args.number) _ _ _ c.find.ensures.ran (YieldsList-from_slice (list_of c.args.self.now) cc) (λ x b q k. search (rules, tests)))
    c.in_ok-setting.was
