use Rattle.std.proofs.Common.{◌≡◌, ◌++◌, All, drop}
use Rattle.core_syntax.specs.ErrorViews.{error_views}
use Rattle.core_syntax.specs.Positions.{HasSingleSpans}
use Rattle.core_builder.specs.AddedRules.{unreachable_each}
use Rattle.core_builder.proofs.refusals.report_conflicts.Given as goal

abbrev pub invariant-loop-first : goal.invariant-loop-first
invariant-loop-first l = record {
  said : error_views l.errors.items ++ unreachable_each (drop l.first-index l.fn.conflicts) l.fn.pos ≡ error_views l.fn.errors.items ++ unreachable_each l.fn.conflicts l.fn.pos;
  single : All HasSingleSpans l.fn.errors.items → All HasSingleSpans l.errors.items;
}
