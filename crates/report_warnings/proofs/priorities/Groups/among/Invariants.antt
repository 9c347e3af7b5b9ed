-- So many of the numbers stand with those that ask the same.
use Rattle.std.proofs.Common.{take}
use Rattle.report_warnings.specs.RuleGroups.{AreGroupedAmong}
use Rattle.report_warnings.proofs.priorities.Groups.among.Given as goal

abbrev pub invariant-loop-number : goal.invariant-loop-number
invariant-loop-number l = AreGroupedAmong (take l.number-index l.numbers) l.rules l.groups
