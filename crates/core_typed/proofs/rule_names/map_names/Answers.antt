use Rattle.std.proofs.Common.{option_map, refl, ap, rules}
use Rattle.std.proofs.lemmas.List.{drop_all}
use Rattle.core_syntax.proofs.Positioned.{notes_nothing}
use Rattle.core_typed.specs.RuleViews.{rule_view, rule_views}
use Rattle.core_typed.specs.RuleNaming.{TakesName}
use Rattle.core_typed.proofs.FirstErrors.{begins_first, may_begin}
use Rattle.core_typed.proofs.MapSteps.{first_named, next_named, last_named, next_begins}
use Rattle.core_typed.proofs.NotedPositions.{next_placed}
use Rattle.core_typed.proofs.rule_names.map_names.Goals as goal

pub loop-rule-init : goal.loop-rule-init
loop-rule-init c = (first_named _ _ _ (λ k. ap (option_map (λ r. r.0)) (c.new-rule_map.ensures.none _)), notes_nothing _ _ _ refl, begins_first (TakesName (rule_views c.args.rules.now)) (Unit {0}) _ tt)

pub loop-rule-preserved : goal.loop-rule-preserved
loop-rule-preserved c = (
  next_named c.args.rules.now c.loop-rule.rule-index c.rule-item.result (search rules) c.rule-item.is _ _ _ _ _ c.loop-rule.invariant.0 c.in_ok-map_name.ensures.names,
  next_placed (λ r. r.at) rule_view c.args.rules.now c.loop-rule.rule-index c.rule-item.result (search rules) c.rule-item.is _ _ _ c.loop-rule.invariant.1 c.in_ok-map_name.ensures.places,
  next_begins c.args.rules.now c.loop-rule.rule-index c.rule-item.result (search rules) c.rule-item.is _ _ _ _ _ c.loop-rule.invariant.0 c.in_ok-map_name.ensures.names c.in_ok-map_name.ensures.places c.loop-rule.invariant.2,
)

pub returns-clause-maps : goal.returns-clause-maps
returns-clause-maps c = last_named _ _ _ _ (rw (drop_all c.loop-rule.rule-index c.args.rules.now c.loop-rule-test.false) at c.loop-rule.invariant.0)

pub returns-clause-places : goal.returns-clause-places
returns-clause-places c = c.loop-rule.invariant.1

pub returns-clause-first : goal.returns-clause-first
returns-clause-first c = may_begin (TakesName (rule_views c.args.rules.now)) (Unit {0}) _ _ c.loop-rule.invariant.2
