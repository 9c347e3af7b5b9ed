use Rattle.std.proofs.Common.{◌∙◌}
use Rattle.core_rule_sets.specs.SiteDemands.{constraint_held}
use Rattle.core_rule_sets.specs.SiteViews.{constraint_view}
use Rattle.core_rule_sets.proofs.ClosingNumbers.{one_more_asked}
use Rattle.core_rule_sets.proofs.demanded.Demanded.ask_each.Goals as goal

pub loop-site-preserved : goal.loop-site-preserved
loop-site-preserved c = record {
  due = c.in_ok-ask.ensures.due c.loop-site.invariant.due;
  equated = c.in_ok-ask.ensures.equated ∙ c.loop-site.invariant.equated;
  asked = λ s.
      one_more_asked (constraint_held c.loop-site.self) (constraint_held c.ask.new.self) c.args.sites.now c.loop-site.site-index c.site-item.result (constraint_view c.args.constraint.now) c.loop-site-test.true c.site-item.is
      c.in_ok-ask.ensures.asked s
      ∙ c.loop-site.invariant.asked s;
}
