use Rattle.std.proofs.Common.{drop}
use Rattle.core_syntax.specs.Positions.{NotesAt}
use Rattle.core_typed.specs.RuleViews.{rule_views}
use Rattle.core_typed.specs.RuleNaming.{TakesName, rules_at}
use Rattle.core_typed.proofs.FirstErrors.{BeginsUnless}
use Rattle.core_typed.proofs.MapSteps.{MappingAt}
use Rattle.core_typed.proofs.rule_names.map_names.Given as goal

abbrev pub invariant-loop-rule : goal.invariant-loop-rule
invariant-loop-rule l =
    MappingAt (rule_views l.rules) (rule_views (drop l.rule-index l.rules)) l.initial.errors.items l.errors.items l.rule_map
    × NotesAt (rules_at (rule_views l.rules)) l.initial.errors.items l.errors.items
    × BeginsUnless (TakesName (rule_views l.rules)) (Unit {0}) l.initial.errors.items l.errors.items
