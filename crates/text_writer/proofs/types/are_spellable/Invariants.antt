use Rattle.std.proofs.Common.{◌≡◌, map, drop}
use Rattle.std.specs.List.{list_all}
use Rattle.core_syntax.specs.SyntaxViews.{variant_view}
use Rattle.text_writer.specs.Spellable.{variant_is_spellable}
use Rattle.text_writer.proofs.types.are_spellable.Given as goal

abbrev pub invariant-loop-variant : goal.invariant-loop-variant
invariant-loop-variant l =
    list_all variant_is_spellable (map variant_view (drop l.variant-index l.variants)) ≡ list_all variant_is_spellable (map variant_view l.variants)
