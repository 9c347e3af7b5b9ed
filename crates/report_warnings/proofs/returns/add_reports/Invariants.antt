-- Each dead return so far is told.
use Rattle.std.proofs.Common.{map, take}
use Rattle.report_warnings.specs.Added.{AddsTold}
use Rattle.report_warnings.specs.DeadReturns.{place_pair, told_of_dead}
use Rattle.report_warnings.proofs.returns.add_reports.Given as goal

abbrev pub invariant-loop-places : goal.invariant-loop-places
invariant-loop-places l = AddsTold (map (λ d. told_of_dead (place_pair d)) (take l.places-index l.dead)) l.fn.reports.items l.reports.items
