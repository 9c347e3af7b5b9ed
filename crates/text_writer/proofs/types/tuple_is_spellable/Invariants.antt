use Rattle.std.proofs.Common.{◌≡◌, map, drop}
use Rattle.core_syntax.specs.SyntaxViews.{tuple_field_view}
use Rattle.text_writer.specs.Spellable.{tuple_is_spellable}
use Rattle.text_writer.proofs.types.tuple_is_spellable.Given as goal

abbrev pub invariant-loop-i : goal.invariant-loop-i
invariant-loop-i l =
    tuple_is_spellable l.i (map tuple_field_view (drop l.i l.fields)) ≡ tuple_is_spellable 0 (map tuple_field_view l.fields)
