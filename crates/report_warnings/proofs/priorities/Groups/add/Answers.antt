use Rattle.std.proofs.Common.{refl, sym, ap, ◌∙◌, option_map}
use Rattle.core_rule_sets.specs.SiteViews.{constraint_view}
use Rattle.report_warnings.proofs.RuleGroups.{added_asking, added_bare}
use Rattle.report_warnings.proofs.priorities.Groups.add.Goals as goal

pub returns-in_ok-add_asking-in-Some : goal.returns-in_ok-add_asking-in-Some
returns-in_ok-add_asking-in-Some c =
    added_asking c.args.rule.now c.args.number c.args.self.now _ c.in-Some.asked (ap (option_map constraint_view) (sym c.in-Some.is) ∙ c.get_constraint.ensures) refl refl c.in_ok-add_asking-in-Some.ensures

pub returns-in_ok-push-in-None : goal.returns-in_ok-push-in-None
returns-in_ok-push-in-None c =
    added_bare c.args.rule.now c.args.number c.args.self.now _ (ap (option_map constraint_view) (sym c.in-None.is) ∙ c.get_constraint.ensures) refl c.in_ok-push-in-None.ensures.items refl
