use Rattle.std.proofs.Common.{◌≡◌, ◌++◌, drop, map}
use Rattle.cranelift_isle.specs.ErrorViews.{span_starts}
use Rattle.cranelift_isle.specs.SyntaxViews.{position}
use Rattle.report_queries.proofs.positions.starts.Given as goal

abbrev pub invariant-loop-span : goal.invariant-loop-span
invariant-loop-span l = map position l.places.items ++ span_starts (drop l.span-index l.spans) ≡ span_starts l.spans
