use Rattle.std.proofs.Common.{◌≡◌, ap, ◌∙◌, sym, refl, rules}
use Rattle.model.specs.visits.Demands.{demands_of}
use Rattle.core_typed.specs.RuleViews.{rule_view}
use Rattle.core_rule_sets.specs.SiteViews.{set_rule_views}
use Rattle.core_rule_sets.specs.Verdicts.{unreachability_view, unreachability_views}
use Rattle.core_builder.proofs.PassedRules.{reachable_if}
use Rattle.core_builder.proofs.RulesReported.{goes_on_conflicting, goes_on_refused, none_listed, on_ok_then, some_listed, visited_fields}
use Rattle.core_builder.proofs.term_sets.TermSet.add_visited.Goals as goal

pub returns-then-not-is_empty-clause-goes : goal.returns-then-not-is_empty-clause-goes
returns-then-not-is_empty-clause-goes c p before w =
    let b = c.args.self.now.builder in
    let same : b.conflicts.items ≡ c.deref.result.now = search (rules, c.deref.ensures) in
    on_ok_then _ _ c.report_conflicts.result
    (goes_on_conflicting p before (rule_view c.args.rule.now) c.args.self.now w.stands c.args.errors.now.items c.report_conflicts.new.errors.items c.args.rule.now.pos refl c.deref.result.now same
    (λ e. some_listed b.conflicts c.is_empty.result c.is_empty.ensures c.if-not-is_empty.true (same ∙ e)))
    c.report_conflicts.ensures.says

pub returns-in-Some-clause-goes : goal.returns-in-Some-clause-goes
returns-in-Some-clause-goes c p before w =
    let r = rule_view c.args.rule.now in
    let met = none_listed c.args.self.now.builder.conflicts c.is_empty.result c.is_empty.ensures c.if-not-is_empty.false in
    let found = c.in_ok-why.ensures before (demands_of p r) (visited_fields p before r c.args.self.now.builder w.stands met) in
    on_ok_then _ _ c.report_unreachable.result
    (goes_on_refused p before r c.args.self.now w.stands c.args.errors.now.items c.report_unreachable.new.errors.items c.args.rule.now.pos refl (unreachability_view c.in-Some.why) (sym found ∙ ap unreachability_views c.in-Some.is))
    c.report_unreachable.ensures.says

pub returns-in-None-clause-goes : goal.returns-in-None-clause-goes
returns-in-None-clause-goes c p before w =
    let r = rule_view c.args.rule.now in
    let met = none_listed c.args.self.now.builder.conflicts c.is_empty.result c.is_empty.ensures c.if-not-is_empty.false in
    let found = c.in_ok-why.ensures before (demands_of p r) (visited_fields p before r c.args.self.now.builder w.stands met) in
    c.add_reachable.ensures.goes p before w (reachable_if p before r (set_rule_views c.args.self.now.rules.items) c.args.self.now.builder w.stands (sym found ∙ ap unreachability_views c.in-None.is))
