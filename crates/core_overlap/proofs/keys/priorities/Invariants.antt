use Rattle.std.proofs.Common.{take}
use Rattle.core_rule_sets.specs.SiteViews.{set_rule_views}
use Rattle.core_overlap.specs.Keys.{AreKeyed, IsPriorityNumber}
use Rattle.core_overlap.proofs.keys.priorities.Given as goal

abbrev pub invariant-loop-rule : goal.invariant-loop-rule
invariant-loop-rule l = AreKeyed IsPriorityNumber (set_rule_views (take l.rule-index l.rules)) l.keys.items
