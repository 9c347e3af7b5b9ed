use Rattle.std.proofs.Common.{[]}
use Rattle.core_syntax.specs.SyntaxViews.{definition_views}
use Rattle.core_syntax.specs.Positions.{NotesAt, OccurAmong, positions_of}
use Rattle.core_typed.specs.RuleViews.{rule_views}
use Rattle.core_typed.specs.RuleNaming.{rules_at}
use Rattle.core_rules.specs.RulePositions.{with_templates}
use Rattle.core_rules.specs.RuleListTaking.{DoesRules}
use Rattle.core_rules.specs.ShownSettings.{Keeps}
use Rattle.core_rules.proofs.NamedLimits.{rules_before}
use Rattle.core_rules.proofs.term_env.TermEnv.collect_rules.Given as goal

abbrev pub invariant-loop-def : goal.invariant-loop-def
invariant-loop-def l =
    Keeps l.fn.tyenv l.tyenv
    × NotesAt (with_templates l.self (positions_of (definition_views l.defs))) l.fn.work.errors.items l.work.errors.items
    × OccurAmong (rules_at (rule_views l.rules.items)) (positions_of (definition_views l.defs))
    × DoesRules l.self l.fn.tyenv l.tyenv (rules_before l.defs l.def-index) [] (rule_views l.rules.items) l.fn.work.errors.items l.work.errors.items
