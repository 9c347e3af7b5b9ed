use Rattle.std.proofs.Common.{◌≡◌, drop}
use Rattle.report_compare.specs.Agreement.{behind_head}
use Rattle.report_compare.specs.LineViews.{texts_of}
use Rattle.report_compare.proofs.behind_head.Given as goal

abbrev pub invariant-loop-i : goal.invariant-loop-i
invariant-loop-i l = behind_head l.head (texts_of (drop l.i l.lines)) ≡ behind_head l.head (texts_of l.lines)
