use Rattle.std.proofs.Common.{◌≡◌, ◌+◌, ◌++◌, drop}
use Rattle.core_rule_sets.specs.SiteViews.{set_rule_view, set_rule_views}
use Rattle.core_overlap.specs.Comparisons.{masked_behind, masked_views, pair_views, wrong_behind}
use Rattle.core_overlap.proofs.overlap.check_behind.Given as goal

abbrev pub invariant-loop-j : goal.invariant-loop-j
invariant-loop-j l = record {
  wrong : pair_views l.wrong.items ++ wrong_behind (set_rule_view l.left) (set_rule_views (drop l.j l.rules)) ≡ pair_views l.initial.wrong.items ++ wrong_behind (set_rule_view l.left) (set_rule_views (drop (l.i + 1) l.rules));
  masked : masked_views l.masked.items ++ masked_behind l.i (set_rule_view l.left) l.j (set_rule_views (drop l.j l.rules)) ≡ masked_views l.initial.masked.items ++ masked_behind l.i (set_rule_view l.left) (l.i + 1) (set_rule_views (drop (l.i + 1) l.rules));
}
