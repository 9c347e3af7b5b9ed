use Rattle.std.proofs.Common.{◌≡◌, ◌++◌, map, drop, string_bytes}
use Rattle.core_syntax.specs.SyntaxViews.{field_view}
use Rattle.text_writer.specs.Forms.{field_forms}
use Rattle.text_writer.specs.Texts.{spaced}
use Rattle.text_writer.proofs.types.push_named_fields.Given as goal

abbrev pub invariant-loop-field : goal.invariant-loop-field
invariant-loop-field l =
    string_bytes l.out ++ spaced (field_forms (map field_view (drop l.field-index l.fields))) ≡ string_bytes l.fn.out ++ spaced (field_forms (map field_view l.fields))
