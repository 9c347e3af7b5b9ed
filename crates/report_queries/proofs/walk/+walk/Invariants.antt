use Rattle.std.proofs.Common.{◌≡◌, ◌++◌, drop}
use Rattle.cranelift_isle.specs.TreeViews.{arms_view, check_view, steps_view, tree_view}
use Rattle.report_queries.specs.Walks.{steps_from, steps_inside, steps_of_arms, turn_views, visit_views}
use Rattle.report_queries.proofs.walk.+walk.Given as goal

abbrev pub invariant-push_block-loop-step : goal.invariant-push_block-loop-step
invariant-push_block-loop-step l =
    visit_views l.out.items ++ steps_from (turn_views l.path) (steps_view (drop l.step-index l.step-items))
    ≡ visit_views l.fn.out.items ++ steps_from (turn_views l.path) (tree_view l.block)

abbrev pub invariant-push_inside-loop-arm : goal.invariant-push_inside-loop-arm
invariant-push_inside-loop-arm l =
    visit_views l.out.items ++ steps_of_arms (turn_views l.path) l.source (arms_view (drop l.arm-index l.arm-items))
    ≡ visit_views l.fn.out.items ++ steps_inside (turn_views l.path) (check_view l.check)
