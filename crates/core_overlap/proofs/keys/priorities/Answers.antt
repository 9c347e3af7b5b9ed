use Rattle.std.proofs.Common.{subst}
use Rattle.core_rule_sets.specs.SiteViews.{set_rule_view}
use Rattle.core_overlap.specs.Keys.{IsPriorityNumber}
use Rattle.core_overlap.proofs.DistinctKeys.{keyed_more}
use Rattle.core_overlap.proofs.keys.priorities.Goals as goal

pub loop-rule-preserved : goal.loop-rule-preserved
loop-rule-preserved c =
    keyed_more IsPriorityNumber c.args.rules.now c.loop-rule.rule-index c.rule-item.result c.loop-rule.keys.items c.push.new.self.items c.priority_of.result c.loop-rule-test.true c.loop-rule.invariant c.in_ok-push.ensures.items
    (λ k e. subst (λ r. IsPriorityNumber (set_rule_view r) k) c.rule-item.is (c.priority_of.ensures k e))
