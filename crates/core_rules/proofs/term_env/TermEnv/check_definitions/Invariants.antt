use Rattle.std.proofs.Common.{IsTrue, drop}
use Rattle.std.specs.List.{flat_map}
use Rattle.core_syntax.specs.SyntaxViews.{definition_views}
use Rattle.model.specs.lists.TermTable.{rule_trees}
use Rattle.core_syntax.specs.Positions.{NotesAt, positions_of}
use Rattle.core_rules.specs.Constructors.{has_constructor_if_there, uses_of_rule}
use Rattle.core_rules.specs.PatternUses.{found_term}
use Rattle.core_rules.proofs.CheckedUses.{CheckedAt}
use Rattle.core_rules.proofs.NamedLimits.{rules_before}
use Rattle.core_rules.proofs.RuleBreachSteps.{UsedUpTo}
use Rattle.core_rules.proofs.term_env.TermEnv.check_definitions.Given as goal

abbrev pub invariant-loop-def : goal.invariant-loop-def
invariant-loop-def l =
    CheckedAt (λ u. IsTrue (has_constructor_if_there (found_term l.self l.tyenv u.1.text))) (flat_map uses_of_rule (rule_trees (definition_views l.defs))) (flat_map uses_of_rule (rule_trees (definition_views (drop l.def-index l.defs)))) l.initial.errors.items l.errors.items
    × NotesAt (positions_of (definition_views l.defs)) l.initial.errors.items l.errors.items
    × UsedUpTo l.self l.tyenv (rule_trees (definition_views l.defs)) (rules_before l.defs l.def-index) l.initial.errors.items l.errors.items
