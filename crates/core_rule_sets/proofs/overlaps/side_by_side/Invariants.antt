use Rattle.std.proofs.Common.{◌+◌, ◌-◌, ◌≤◌, length, drop}
use Rattle.core_rule_sets.specs.SiteViews.{constraint_views}
use Rattle.core_rule_sets.proofs.SideBySide.{IsMetSoFar}
use Rattle.core_rule_sets.proofs.overlaps.side_by_side.Given as goal

abbrev pub invariant-loop-i : goal.invariant-loop-i
invariant-loop-i l = record {
  first : l.i ≤ length l.some;
  second : l.j ≤ length l.others;
  met : IsMetSoFar (constraint_views l.some) (constraint_views l.others) (constraint_views (drop l.i l.some)) (constraint_views (drop l.j l.others)) l.among l.others_among;
}

abbrev pub decreases-loop-i : goal.decreases-loop-i
decreases-loop-i l = (length l.some - l.i) + (length l.others - l.j)
