use Rattle.core_syntax.specs.SyntaxViews.{position}
use Rattle.report_queries.proofs.NameSteps.{one_name_more}
use Rattle.report_queries.proofs.trees.rule_names.Goals as goal

pub loop-rule-preserved : goal.loop-rule-preserved
loop-rule-preserved c q =
    one_name_more c.deref-rule-items.result.now (position q) c.loop-rule.rule-index c.rule-item.result _ _ _ c.loop-rule-test.true c.rule-item.is (c.in_ok-add_name.ensures q) (c.loop-rule.invariant q)
