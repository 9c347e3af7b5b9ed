use Rattle.std.proofs.Common.{◌-◌, ◌+◌, All, sym, subst, ◌∙◌, arith}
use Rattle.std.proofs.lemmas.List.{length-map}
use Rattle.std.proofs.lemmas.List.Elements.{All-nil}
use Rattle.core_syntax.specs.Positions.{HasSingleSpans}
use Rattle.core_syntax.specs.SyntaxViews.{position}
use Rattle.core_overlap.specs.Comparisons.{pair_view, pair_views}
use Rattle.core_overlap.specs.Graphs.{neighbours_at, unreported}
use Rattle.core_overlap.proofs.OverlapCounts.{degree_is, so_far_none, so_far_all, so_far_more, so_far_end}
use Rattle.core_overlap.proofs.Queues.{are_still_queued}
use Rattle.core_overlap.proofs.overlap.overlap_errors.Goals as goal

pub loop-init : goal.loop-init
loop-init c =
    let many = length-map c.args.wrong.items pair_view in
    let most = c.len-most.ensures ∙ c.args.wrong.ok.0 in
    record {
      counted = so_far_none (pair_views c.args.wrong.items) c.in_ok-counts.counts c.new-errors.result.items _ c.new-errors.ensures.items (omega (arith, many, most))
          (λ q. c.in_ok-counts.ensures q ∙ degree_is (pair_views c.args.wrong.items) (neighbours_at c.in_ok-others.others q) (position q) (c.in_ok-others.ensures q));
      queued = c.in_ok-queue.ensures;
      single = subst (All HasSingleSpans) (sym c.new-errors.ensures.items) (All-nil HasSingleSpans);
    }

pub returns-then-count-eq0-clause-reports : goal.returns-then-count-eq0-clause-reports
returns-then-count-eq0-clause-reports c =
    so_far_all (pair_views c.args.wrong.items) c.loop.counts c.loop.errors.items _ c.in_ok-place.place
    (λ q h. c.in_ok-place.ensures.first q (c.loop.invariant.queued q h)) c.loop.invariant.counted (sym c.count.ensures ∙ c.if-count-eq0.true)

pub loop-preserved : goal.loop-preserved
loop-preserved c = record {
  counted = so_far_more (pair_views c.args.wrong.items) c.loop.counts c.loop.errors.items (c.len-most.result - c.loop.counter) c.in_ok-place.place
      (λ q h. c.in_ok-place.ensures.first q (c.loop.invariant.queued q h)) c.loop.invariant.counted
      c.in_ok-others.others c.report.new.counts c.report.new.errors.items (c.len-most.result - (c.loop.counter + 1))
      (let h = c.loop-test.true in omega (arith, h))
      (λ z. c.if-count-eq0.false (c.count.ensures ∙ z))
      c.in_ok-others.ensures c.in_ok-report.ensures.counts c.in_ok-report.ensures.error;
  queued =
      are_still_queued c.loop.counts c.report.new.counts c.loop.queue c.foremost.new.queue c.in_ok-place.place (unreported c.in_ok-others.others c.loop.counts c.in_ok-place.place) c.in_ok-report.ensures.counts
      c.in_ok-place.ensures.queued c.loop.invariant.queued;
  single = c.in_ok-report.ensures.single c.loop.invariant.single;
}

pub returns-clause-reports : goal.returns-clause-reports
returns-clause-reports c =
    so_far_end (pair_views c.args.wrong.items) c.loop.counts c.loop.errors.items (c.len-most.result - c.loop.counter) (let h = c.loop-test.false in omega (arith, h)) c.loop.invariant.counted
