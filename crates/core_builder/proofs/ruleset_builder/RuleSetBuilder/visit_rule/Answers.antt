use Rattle.std.specs.Prelude.{Ok, Err}
use Rattle.core_rule_sets.proofs.FullTables.{passed_on}
use Rattle.core_builder.specs.VisitedSites.{EndsAtLimit}
use Rattle.core_builder.proofs.FollowedRule.{rule_ends, rule_finished, rule_full, rule_seen}
use Rattle.core_typed.specs.RuleViews.{rule_view}
use Rattle.core_typed.proofs.RuleRunSteps.{known_root}
use Rattle.core_builder.proofs.ruleset_builder.RuleSetBuilder.visit_rule.Goals as goal

pub may_give_nothing-partial-requires : goal.may_give_nothing-partial-requires
may_give_nothing-partial-requires g c = known_root (g.E.UsedTerms.term_entries c.args.termenv.now) (rule_view c.args.rule.now) c.requires.visitable

pub returns-clause-visited : goal.returns-clause-visited
returns-clause-visited g c p before same formed h =
    let r = rule_view c.args.rule.now in
    let seen = rule_seen p before r c.args.self.now c.visit.new.visitor same formed h (Ok c.in_ok-value.value) c.in_ok-value.ensures.run in
    rule_finished p before r c.args.self.now c.visit.new.visitor c.finish.new.self c.in_ok-value.value c.may_give_nothing-partial.result c.finish.result (c.may_give_nothing-partial.ensures p same) seen
    (λ w k l. c.finish.ensures.finished before w k l)

pub returns-clause-limit : goal.returns-clause-limit
returns-clause-limit g c p before same formed h =
    let r = rule_view c.args.rule.now in
    let seen = rule_seen p before r c.args.self.now c.visit.new.visitor same formed h (Ok c.in_ok-value.value) c.in_ok-value.ensures.run in
    rule_full p before r c.args.self.now c.visit.new.visitor c.finish.new.self c.in_ok-value.value c.may_give_nothing-partial.result c.finish.result (c.may_give_nothing-partial.ensures p same) seen
    (λ w k l. c.finish.ensures.full before w k l)

pub returns-in_err-value-clause-limit : goal.returns-in_err-value-clause-limit
returns-in_err-value-clause-limit g c p before same formed h =
    let r = rule_view c.args.rule.now in
    let e = c.in_err-value.field-0.0 in
    passed_on c.from_residual.result e (EndsAtLimit p before r c.visit.new.visitor) c.from_residual.ensures
    (rule_ends p before r c.visit.new.visitor e (rule_seen p before r c.args.self.now c.visit.new.visitor same formed h (Err e) c.in_err-value.ensures.run))
