use Rattle.std.proofs.Common.{◌≡◌, ◌++◌, drop, map}
use Rattle.report_compare.specs.LineViews.{texts_of}
use Rattle.report_compare.specs.SaidLines.{said_of}
use Rattle.report_compare.proofs.said_lines.Given as goal

abbrev pub invariant-loop-before : goal.invariant-loop-before
invariant-loop-before l =
    texts_of l.out.items ++ said_of (map (λ line. line.now) (drop l.before l.line-items)) ≡ said_of (map (λ line. line.now) l.line-items)
