use Rattle.std.proofs.Common.{◌≡◌, ◌++◌, drop, map}
use Rattle.std.specs.Prelude.{string_bytes}
use Rattle.model_print.specs.PrintedTrees.{field_token}
use Rattle.report_print.specs.TreeTexts.{behind}
use Rattle.report_print.proofs.print.print_fields.Given as goal

abbrev pub invariant-loop-field : goal.invariant-loop-field
invariant-loop-field l =
    string_bytes l.out ++ behind l.names (map field_token (drop l.field-index l.fields)) ≡ string_bytes l.fn.out ++ behind l.names (map field_token l.fields)
