use Rattle.std.proofs.Common.{◌≡◌, map, drop}
use Rattle.std.specs.List.{list_all}
use Rattle.core_syntax.specs.SyntaxViews.{field_view}
use Rattle.text_writer.specs.Spellable.{field_is_spellable}
use Rattle.text_writer.proofs.types.named_are_spellable.Given as goal

abbrev pub invariant-loop-field : goal.invariant-loop-field
invariant-loop-field l =
    list_all field_is_spellable (map field_view (drop l.field-index l.fields)) ≡ list_all field_is_spellable (map field_view l.fields)
