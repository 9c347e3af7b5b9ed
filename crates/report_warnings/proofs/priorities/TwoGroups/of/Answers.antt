use Rattle.std.proofs.Common.{subst}
use Rattle.report_warnings.specs.RuleGroups.{AreGroupedAmong}
use Rattle.report_warnings.proofs.priorities.TwoGroups.of.Goals as goal

pub returns : goal.returns
returns c = record {
  outer = c.in_ok-outer.ensures;
  inner = subst (λ ns. AreGroupedAmong ns c.args.rules.now c.in_ok-inner.inner) c.deref.ensures.value c.in_ok-inner.ensures;
}
