use Rattle.std.proofs.Common.{◌≡◌, drop}
use Rattle.report_compare.specs.Agreement.{same_lines}
use Rattle.report_compare.specs.LineViews.{texts_of}
use Rattle.report_compare.proofs.same_lines.Given as goal

abbrev pub invariant-loop-i : goal.invariant-loop-i
invariant-loop-i l = same_lines (texts_of (drop l.i l.theirs)) (texts_of (drop l.i l.ours)) ≡ same_lines (texts_of l.theirs) (texts_of l.ours)
