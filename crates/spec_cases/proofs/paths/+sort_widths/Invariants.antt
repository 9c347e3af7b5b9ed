use Rattle.std.proofs.Common.{length}
use Rattle.spec_cases.proofs.paths.+sort_widths.Given as goal

abbrev pub decreases-sort_widths : goal.decreases-sort_widths
decreases-sort_widths l = length l.sorts.now
