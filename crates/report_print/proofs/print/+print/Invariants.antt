use Rattle.std.proofs.Common.{◌≡◌, ◌++◌, drop}
use Rattle.std.specs.Prelude.{string_bytes}
use Rattle.core_serialize.specs.TreeViews.{arms_view, check_view, steps_view, tree_view}
use Rattle.model_print.specs.PrintedTrees.{tree_lines, check_lines, arms_lines}
use Rattle.report_print.specs.TreeTexts.{shown_lines}
use Rattle.report_print.proofs.print.+print.Given as goal

abbrev pub invariant-print_block-loop-step : goal.invariant-print_block-loop-step
invariant-print_block-loop-step l =
    string_bytes l.out ++ shown_lines l.names l.comments (tree_lines l.depth (steps_view (drop l.step-index l.step-items)))
    ≡ string_bytes l.fn.out ++ shown_lines l.names l.comments (tree_lines l.depth (tree_view l.block))

abbrev pub invariant-print_check-loop-arm : goal.invariant-print_check-loop-arm
invariant-print_check-loop-arm l =
    string_bytes l.out ++ shown_lines l.names l.comments (arms_lines l.inner (arms_view (drop l.arm-index l.arm-items)))
    ≡ string_bytes l.fn.out ++ shown_lines l.names l.comments (check_lines l.depth (check_view l.check))
