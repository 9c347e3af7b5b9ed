use Rattle.std.proofs.Common.{◌≡◌, ◌++◌, drop, map}
use Rattle.core_syntax.specs.SyntaxViews.{position}
use Rattle.report_warnings.specs.IdlePriorities.{idle_places}
use Rattle.report_warnings.proofs.priorities.idle_priorities.Given as goal

abbrev pub invariant-loop-rule : goal.invariant-loop-rule
invariant-loop-rule l = map position l.idle.items ++ idle_places l.rules (drop l.rule-index l.rules) ≡ idle_places l.rules l.rules
