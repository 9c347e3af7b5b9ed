use Rattle.std.proofs.Common.{◌≡◌, map, drop}
use Rattle.std.specs.List.{list_all}
use Rattle.text_reader.specs.SpecViews.{variant_value_view}
use Rattle.text_writer.specs.SpellableTrees.{variant_value_is_spellable}
use Rattle.text_writer.proofs.spellable.variants_are_spellable.Given as goal

abbrev pub invariant-loop-value : goal.invariant-loop-value
invariant-loop-value l = list_all variant_value_is_spellable (map variant_value_view (drop l.value-index l.values)) ≡ list_all variant_value_is_spellable (map variant_value_view l.values)
