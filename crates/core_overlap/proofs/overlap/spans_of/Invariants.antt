use Rattle.std.proofs.Common.{◌≡◌, All, take}
use Rattle.core_overlap.specs.Comparisons.{positions}
use Rattle.core_syntax.specs.ErrorViews.{span_starts}
use Rattle.core_syntax.specs.Positions.{IsSingle}
use Rattle.core_overlap.proofs.overlap.spans_of.Given as goal

abbrev pub invariant-loop-place : goal.invariant-loop-place
invariant-loop-place l = record {
  starts : span_starts l.spans.items ≡ positions (take l.place-index l.places);
  single : All IsSingle l.spans.items;
}
