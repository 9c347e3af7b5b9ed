use Rattle.std.proofs.Common.{◌<◌, ◌++◌, ap, subst, sym, ◌∙◌}
use Rattle.core_syntax.specs.ErrorViews.{error_views}
use Rattle.core_rule_sets.specs.SiteViews.{set_rule_view, set_rule_views}
use Rattle.core_rule_sets.proofs.ListTails.{rest_is}
use Rattle.core_overlap.specs.Comparisons.{list_views, positions, shadow_of, shadows_of}
use Rattle.core_overlap.proofs.ListIteration.{more}
use Rattle.core_overlap.proofs.overlap.add_shadows.Goals as goal

pub loop-i-preserved : goal.loop-i-preserved
loop-i-preserved c =
    let rules = rest_is c.args.rules.now c.loop-i.i c.index-rules-i.result c.loop-i-test.true c.index-rules-i.is in
    let lists = rest_is c.args.lists.now c.loop-i.i c.index-lists-i.result (subst (λ n. c.loop-i.i < n) (sym c.requires) c.loop-i-test.true) c.index-lists-i.is in
    record {
      shadows = more _ _ _ _ _ _ (c.in_ok-add_shadow.ensures.shadow ∙ ap (λ m. error_views c.loop-i.errors.items ++ shadow_of (set_rule_view c.index-rules-i.result) (positions m)) c.deref.ensures.value) (λ k. shadows_of (set_rule_views (rules k)) (list_views (lists k))) c.loop-i.invariant.shadows;
      single = λ h. c.in_ok-add_shadow.ensures.single (c.loop-i.invariant.single h);
    }
