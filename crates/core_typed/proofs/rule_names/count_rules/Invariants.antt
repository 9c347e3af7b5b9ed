use Rattle.std.proofs.Common.{length, take}
use Rattle.core_typed.specs.RuleNaming.{AreCounts}
use Rattle.core_typed.specs.RuleViews.{rule_views}
use Rattle.core_typed.proofs.rule_names.count_rules.Given as goal

abbrev pub invariant-loop-rule : goal.invariant-loop-rule
invariant-loop-rule l = AreCounts (length l.terms) (rule_views (take l.rule-index l.rules.items)) l.counts.items
