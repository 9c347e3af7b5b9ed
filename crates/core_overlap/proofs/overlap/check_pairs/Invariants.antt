use Rattle.std.proofs.Common.{◌≡◌, ◌++◌, None, drop}
use Rattle.core_rule_sets.specs.SiteViews.{set_rule_views}
use Rattle.core_overlap.specs.Comparisons.{masked_rows, masked_views, pair_views, wrong_rows}
use Rattle.core_overlap.specs.Keys.{IsFirst}
use Rattle.core_overlap.proofs.overlap.check_pairs.Given as goal

abbrev pub invariant-loop-i : goal.invariant-loop-i
invariant-loop-i l = record {
  bare : IsFirst l.keys.of_rules.items l.i None l.bare;
  wrong : pair_views l.wrong.items ++ wrong_rows (set_rule_views (drop l.i l.rules)) ≡ pair_views l.initial.wrong.items ++ wrong_rows (set_rule_views l.rules);
  masked : masked_views l.masked.items ++ masked_rows l.i (set_rule_views (drop l.i l.rules)) ≡ masked_views l.initial.masked.items ++ masked_rows 0 (set_rule_views l.rules);
}
