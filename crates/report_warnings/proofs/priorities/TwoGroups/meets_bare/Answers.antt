use Rattle.std.proofs.Common.{option_map, sym, ap, ◌∙◌}
use Rattle.core_rule_sets.specs.SiteViews.{constraint_view}
use Rattle.report_warnings.proofs.RuleGroups.{back, found_among, met_listed}
use Rattle.report_warnings.proofs.priorities.TwoGroups.meets_bare.Goals as goal

pub returns-in-Some-clause-met : goal.returns-in-Some-clause-met
returns-in-Some-clause-met c = λ h.
    c.meets_asking.ensures
    ∙ found_among c.args.rules.now c.args.rule.now c.args.self.now.inner c.in-Some.asked (ap (option_map constraint_view) (sym c.in-Some.is) ∙ c.get_constraint.ensures) c.args.self.now.outer.bare.items c.requires.inner h

pub returns-in-Some-clause-only : goal.returns-in-Some-clause-only
returns-in-Some-clause-only c = λ h. back c.args.rules.now c.args.rule.now c.args.self.now.inner c.in-Some.asked (ap (option_map constraint_view) (sym c.in-Some.is) ∙ c.get_constraint.ensures) (sym c.meets_asking.ensures ∙ h)

pub returns-in-None-clause-only : goal.returns-in-None-clause-only
returns-in-None-clause-only c = λ h. met_listed c.args.rules.now c.args.rule.now c.deref.result.now (sym c.meets_listed.ensures ∙ h)
