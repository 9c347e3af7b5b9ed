-- Each idle priority so far is told.
use Rattle.std.proofs.Common.{map, take}
use Rattle.core_syntax.specs.SyntaxViews.{position}
use Rattle.report_warnings.specs.Added.{AddsTold}
use Rattle.report_warnings.specs.IdlePriorities.{told_of_idle}
use Rattle.report_warnings.proofs.priorities.add_reports.Given as goal

abbrev pub invariant-loop-place : goal.invariant-loop-place
invariant-loop-place l = AddsTold (map (λ p. told_of_idle (position p)) (take l.place-index l.idle)) l.fn.reports.items l.reports.items
