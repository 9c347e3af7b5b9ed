use Rattle.std.proofs.Common.{◌≡◌, ◌++◌, All, drop}
use Rattle.core_rule_sets.specs.SiteViews.{set_rule_views}
use Rattle.core_overlap.specs.Comparisons.{list_views, shadows_of}
use Rattle.core_syntax.specs.ErrorViews.{error_views}
use Rattle.core_syntax.specs.Positions.{HasSingleSpans}
use Rattle.core_overlap.proofs.overlap.add_shadows.Given as goal

abbrev pub invariant-loop-i : goal.invariant-loop-i
invariant-loop-i l = record {
  shadows : error_views l.errors.items ++ shadows_of (set_rule_views (drop l.i l.rules)) (list_views (drop l.i l.lists))
      ≡ error_views l.initial.errors.items ++ shadows_of (set_rule_views l.rules) (list_views l.lists);
  single : All HasSingleSpans l.initial.errors.items → All HasSingleSpans l.errors.items;
}
