use Rattle.std.proofs.Common.{arith}
use Rattle.report_print.specs.TreeTexts.{tree_names}
use Rattle.report_print.proofs.PrintSteps.{one_more, no_more, bindings_spelled}
use Rattle.report_print.proofs.print.print_bindings.Goals as goal

pub loop-number-preserved : goal.loop-number-preserved
loop-number-preserved c said =
    one_more _ _ (bindings_spelled (tree_names c.args.names) said) c.args.bindings.now c.loop-number.number c.index-bindings-number.result _ _ _ c.loop-number-test.true c.index-bindings-number.is (c.in_ok-print_site_line.ensures said) (c.loop-number.invariant said)

pub returns : goal.returns
returns c said =
    no_more _ _ (bindings_spelled (tree_names c.args.names) said) c.args.bindings.now c.loop-number.number _ _ (omega (arith, c.loop-number-test.false)) (c.loop-number.invariant said)
