use Rattle.std.proofs.Common.{◌+◌, ◌*◌, length}
use Rattle.spec_cases.proofs.arena.Formulas.+evaluating.Given as goal

abbrev pub decreases-evaluated : goal.decreases-evaluated
decreases-evaluated l = l.expr.0 * 147573952589676412928 + 1

abbrev pub decreases-operation : goal.decreases-operation
decreases-operation l = l.limit.0 * 147573952589676412928

abbrev pub decreases-unknown : goal.decreases-unknown
decreases-unknown l = l.limit.0 * 147573952589676412928

abbrev pub decreases-made : goal.decreases-made
decreases-made l = l.limit.0 * 147573952589676412928

abbrev pub decreases-let_in : goal.decreases-let_in
decreases-let_in l = l.limit.0 * 147573952589676412928

abbrev pub decreases-switch_on : goal.decreases-switch_on
decreases-switch_on l = l.limit.0 * 147573952589676412928

abbrev pub decreases-match_on : goal.decreases-match_on
decreases-match_on l = l.limit.0 * 147573952589676412928

abbrev pub decreases-case_and : goal.decreases-case_and
decreases-case_and l = l.limit.0 * 147573952589676412928

abbrev pub decreases-struct_arm : goal.decreases-struct_arm
decreases-struct_arm l = l.limit.0 * 147573952589676412928

abbrev pub decreases-variant_arm : goal.decreases-variant_arm
decreases-variant_arm l = l.limit.0 * 147573952589676412928

abbrev pub decreases-let_each : goal.decreases-let_each
decreases-let_each l = l.body.0 * 147573952589676412928 + 2 + length l.cases.now

abbrev pub decreases-switch_each : goal.decreases-switch_each
decreases-switch_each l = l.cases.0 * 147573952589676412928 + 2 + length l.values.now

abbrev pub decreases-arm_each : goal.decreases-arm_each
decreases-arm_each l = l.arms.0 * 147573952589676412928 + 2 + length l.values.now

abbrev pub decreases-matched : goal.decreases-matched
decreases-matched l = l.arms.0 * 147573952589676412928 + 18446744073709551619

abbrev pub decreases-match_each : goal.decreases-match_each
decreases-match_each l = l.arms.0 * 147573952589676412928 + 18446744073709551619 + 1 + length l.values.now

abbrev pub decreases-evaluated_each : goal.decreases-evaluated_each
decreases-evaluated_each l = l.exprs.0 * 147573952589676412928 + 1

abbrev pub decreases-evaluated_case : goal.decreases-evaluated_case
decreases-evaluated_case l = l.cases.0 * 147573952589676412928 + 1

abbrev pub decreases-evaluated_arm : goal.decreases-evaluated_arm
decreases-evaluated_arm l = l.arms.0 * 147573952589676412928 + 1

abbrev pub decreases-unless_passed : goal.decreases-unless_passed
decreases-unless_passed l = l.body.0 * 147573952589676412928 + 2

abbrev pub decreases-unless_taken : goal.decreases-unless_taken
decreases-unless_taken l = l.rest.0 * 147573952589676412928 + 2
