use Rattle.std.proofs.Common.{refl, subst}
use Rattle.model.specs.sites.Closure.{before_closing, closing, most_closing_steps}
use Rattle.model.specs.visits.Demands.{demands_of, visit_rule, with_sites}
use Rattle.core_typed.specs.RuleViews.{rule_view}
use Rattle.core_rule_sets.specs.SiteTables.{ForWantOfRoom, IsTable}
use Rattle.core_rule_sets.specs.SiteViews.{set_rule_views}
use Rattle.core_builder.specs.declared.term_sets.TermSet.{TermSet}
use Rattle.core_builder.proofs.PassedRules.{visited_stay}
use Rattle.core_builder.proofs.RulesReported.{closing_ends, goes_on_added, goes_on_limited, on_ok_then}
use Rattle.core_builder.proofs.term_sets.TermSet.add_reachable.Goals as goal

pub report_fault-requires : goal.report_fault-requires
report_fault-requires c = record { goes_on = λ e. subst (ForWantOfRoom (IsTable c.close.new.self.table)) e c.in-Err.ensures.kept }

pub returns-in-Ok-clause-goes : goal.returns-in-Ok-clause-goes
returns-in-Ok-clause-goes c p before w reachable =
    let r = rule_view c.args.rule.now in
    let after = c.close.new.self in
    let mid : TermSet = record { builder = after; rules = c.args.self.now.rules } in
    let closed = c.in-Ok.ensures.closed before (visit_rule p r).visit w.stands in
    on_ok_then _ _ c.push_rule.result
    (goes_on_added p before r c.args.self.now w.stands reachable after closed.0 closed.1 c.in-Ok.ensures.calls.0 c.in-Ok.ensures.calls.1 c.args.rule.now c.args.value mid c.push_rule.new.self c.args.errors.now.items refl w.site refl
    c.push_rule.ensures.table)
    (c.push_rule.ensures.added (closing most_closing_steps (before_closing before (demands_of p r))) closed.1.demands)

pub returns-in-Err-clause-goes : goal.returns-in-Err-clause-goes
returns-in-Err-clause-goes c p before w reachable =
    let r = rule_view c.args.rule.now in
    let b = c.args.self.now.builder in
    let after = c.close.new.self in
    let mid : TermSet = record { builder = after; rules = c.args.self.now.rules } in
    let rules = set_rule_views c.args.self.now.rules.items in
    let ends = closing_ends p before r rules b after w.stands reachable c.in-Err.fault c.in-Err.ensures.kept (c.in-Err.ensures.full before (visit_rule p r).visit w.stands) in
    on_ok_then _ _ c.report_fault.result
    (goes_on_limited p before r after c.args.errors.now.items c.report_fault.new.errors.items c.args.rule.now.pos c.args.self.now mid c.in-Err.fault (with_sites before (demands_of p r).made) refl refl refl w.stands.demands.stand
    (visited_stay p before r rules b w.stands reachable) ends)
    c.report_fault.ensures.says
