use Rattle.std.proofs.Common.{◌≡◌, ◌++◌, map, drop, string_bytes}
use Rattle.core_syntax.specs.SyntaxViews.{tuple_field_view}
use Rattle.text_writer.specs.Forms.{tuple_field_forms}
use Rattle.text_writer.specs.Texts.{spaced}
use Rattle.text_writer.proofs.types.push_tuple_fields.Given as goal

abbrev pub invariant-loop-field : goal.invariant-loop-field
invariant-loop-field l =
    string_bytes l.out ++ spaced (tuple_field_forms (map tuple_field_view (drop l.field-index l.fields))) ≡ string_bytes l.fn.out ++ spaced (tuple_field_forms (map tuple_field_view l.fields))
