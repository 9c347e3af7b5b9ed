use Rattle.std.proofs.Common.{◌≡◌, ◌+◌, ◌-◌, ◌++◌, ℕ, Some, drop, length, slice_get}
use Rattle.core_rule_sets.specs.SiteViews.{set_rule_view, set_rule_views}
use Rattle.core_overlap.specs.Comparisons.{masked_behind, masked_views, pair_views, wrong_behind}
use Rattle.core_overlap.specs.Keys.{IsAhead, nearer}
use Rattle.core_overlap.proofs.overlap.check_alike.Given as goal

abbrev pub invariant-loop-ahead : goal.invariant-loop-ahead
invariant-loop-ahead l = record {
  ahead : (key : ℕ) → slice_get l.keys.of_rules.items l.i ≡ Some (Some key) → IsAhead l.keys.of_rules.items key (nearer l.ahead) l.ahead;
  wrong : pair_views l.wrong.items ++ wrong_behind (set_rule_view l.left) (set_rule_views (drop (nearer l.ahead) l.rules))
      ≡ pair_views l.initial.wrong.items ++ wrong_behind (set_rule_view l.left) (set_rule_views (drop (l.i + 1) l.rules));
  masked : masked_views l.masked.items ++ masked_behind l.i (set_rule_view l.left) (nearer l.ahead) (set_rule_views (drop (nearer l.ahead) l.rules))
      ≡ masked_views l.initial.masked.items ++ masked_behind l.i (set_rule_view l.left) (l.i + 1) (set_rule_views (drop (l.i + 1) l.rules));
}

abbrev pub decreases-loop-ahead : goal.decreases-loop-ahead
decreases-loop-ahead l = length l.rules - nearer l.ahead
