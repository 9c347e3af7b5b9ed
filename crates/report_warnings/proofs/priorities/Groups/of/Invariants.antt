-- So many rules stand with those that ask the same.
use Rattle.report_warnings.proofs.RuleGroups.{AreGroupedTo}
use Rattle.report_warnings.proofs.priorities.Groups.of.Given as goal

abbrev pub invariant-loop-number : goal.invariant-loop-number
invariant-loop-number l = AreGroupedTo l.number l.rules l.groups
