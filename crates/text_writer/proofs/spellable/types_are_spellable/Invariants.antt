use Rattle.std.proofs.Common.{◌≡◌, map, drop}
use Rattle.std.specs.List.{list_all}
use Rattle.text_reader.specs.SpecViews.{model_type_view}
use Rattle.text_writer.specs.SpellableTrees.{signature_type_is_spellable}
use Rattle.text_writer.proofs.spellable.types_are_spellable.Given as goal

abbrev pub invariant-loop-ty : goal.invariant-loop-ty
invariant-loop-ty l = list_all signature_type_is_spellable (map model_type_view (drop l.ty-index l.types)) ≡ list_all signature_type_is_spellable (map model_type_view l.types)
