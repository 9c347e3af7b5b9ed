use Rattle.std.proofs.Common.{◌≡◌, ◌+◌, drop, length}
use Rattle.report_compare.specs.Agreement.{tree_of}
use Rattle.report_compare.specs.LineViews.{texts_of}
use Rattle.report_compare.proofs.tree_length.Given as goal

abbrev pub invariant-loop-i : goal.invariant-loop-i
invariant-loop-i l = l.i + length (tree_of (texts_of (drop l.i l.behind))) ≡ length (tree_of (texts_of l.behind))
