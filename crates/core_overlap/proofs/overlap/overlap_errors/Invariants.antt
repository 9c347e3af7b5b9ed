use Rattle.std.proofs.Common.{◌-◌, All}
use Rattle.core_syntax.specs.Positions.{HasSingleSpans}
use Rattle.core_overlap.specs.Comparisons.{pair_views}
use Rattle.core_overlap.specs.Graphs.{AreQueued}
use Rattle.core_overlap.proofs.OverlapCounts.{IsSoFar}
use Rattle.core_overlap.proofs.overlap.overlap_errors.Given as goal

abbrev pub invariant-loop : goal.invariant-loop
invariant-loop l = record {
  counted : IsSoFar (pair_views l.fn.wrong.items) l.counts l.errors.items (l.most - l.counter);
  queued : AreQueued l.counts l.queue;
  single : All HasSingleSpans l.errors.items;
}
