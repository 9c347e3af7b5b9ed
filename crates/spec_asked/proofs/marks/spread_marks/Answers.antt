use Rattle.std.proofs.Common.{◌-◌, length, arith, ◌∙◌}
use Rattle.core_rule_sets.specs.SiteViews.{site_views}
use Rattle.spec_asked.specs.Marks.{marks}
use Rattle.spec_asked.proofs.Spreading.{spread_step}
use Rattle.spec_asked.proofs.marks.spread_marks.Goals as goal

pub loop-count-preserved : goal.loop-count-preserved
loop-count-preserved c =
    let same = c.loop-count.auto.made in
    let some = c.loop-count-test.true in
    let before = c.loop-count.invariant in (
      omega (arith, before.0),
      λ n l w. spread_step (site_views c.args.bindings.now) (c.loop-count.count - 1) c.loop-count.count (length c.args.made.now) (marks c.mark_sources.new.made) (marks c.loop-count.made)
          (omega (arith, some)) (omega (arith, before.0, w)) (λ k d. c.mark_sources.ensures k (omega (arith, same, d))) n l
          ∙ before.1 n l w,
    )
