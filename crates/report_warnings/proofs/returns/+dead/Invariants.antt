use Rattle.std.proofs.Common.{◌≡◌, ◌++◌, drop}
use Rattle.cranelift_isle.specs.TreeViews.{arms_view, steps_view, tree_view}
use Rattle.report_warnings.specs.DeadReturns.{dead_among_from, dead_from, place_pairs}
use Rattle.report_warnings.proofs.returns.+dead.Given as goal

abbrev pub invariant-push_dead-loop-step : goal.invariant-push_dead-loop-step
invariant-push_dead-loop-step l =
    place_pairs l.out.items ++ dead_from l.first (steps_view (drop l.step-index l.step-items))
    ≡ place_pairs l.fn.out.items ++ dead_from l.fn.first (tree_view l.block)

abbrev pub invariant-push_arms-loop-arm : goal.invariant-push_arms-loop-arm
invariant-push_arms-loop-arm l =
    place_pairs l.out.items ++ dead_among_from l.first (arms_view (drop l.arm-index l.arms))
    ≡ place_pairs l.fn.out.items ++ dead_among_from l.first (arms_view l.arms)
