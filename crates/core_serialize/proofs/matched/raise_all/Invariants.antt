use Rattle.core_rule_sets.specs.SiteViews.{set_view}
use Rattle.core_serialize.specs.Matches.{AreMatched, IsRaised}
use Rattle.core_serialize.proofs.matched.raise_all.Given as goal

abbrev pub invariant-loop-number : goal.invariant-loop-number
invariant-loop-number l = record {
  matched : AreMatched (set_view l.set).rules l.matched.counts.items l.sources;
  raised : IsRaised l.fn.matched l.matched;
}
