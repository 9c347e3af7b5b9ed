use Rattle.std.proofs.Common.{nat_lt}
use Rattle.core_rule_sets.proofs.ListTails.{kept_at}
use Rattle.core_overlap.specs.Graphs.{unreported_at}
use Rattle.core_overlap.proofs.overlap.unreported.Goals as goal

pub loop-other-preserved : goal.loop-other-preserved
loop-other-preserved c = kept_at (λ o. nat_lt 0 (unreported_at c.args.counts.now o)) c.listed-other-items.result.now c.loop-other.other-index _ _ _ c.loop-other-test.true c.loop-other.invariant c.in_ok-add_left.ensures
