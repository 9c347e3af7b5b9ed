use Rattle.std.proofs.Common.{arith}
use Rattle.report_print.specs.TreeTexts.{tree_names}
use Rattle.report_print.proofs.PrintSteps.{one_more, no_more, fields_spelled}
use Rattle.report_print.proofs.print.print_fields.Goals as goal

pub loop-field-preserved : goal.loop-field-preserved
loop-field-preserved c =
    one_more _ _ (fields_spelled (tree_names c.args.names)) c.args.fields.now c.loop-field.field-index c.field-item.result _ _ _ c.loop-field-test.true c.field-item.is (c.in_ok-print_field.ensures (tree_names c.args.names)) c.loop-field.invariant

pub returns : goal.returns
returns c =
    no_more _ _ (fields_spelled (tree_names c.args.names)) c.args.fields.now c.loop-field.field-index _ _ (omega (arith, c.loop-field-test.false)) c.loop-field.invariant
