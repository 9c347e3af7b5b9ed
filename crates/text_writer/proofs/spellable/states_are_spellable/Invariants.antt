use Rattle.std.proofs.Common.{◌≡◌, map, drop}
use Rattle.std.specs.List.{list_all}
use Rattle.text_reader.specs.SpecViews.{modifies_view}
use Rattle.text_writer.specs.SpellableTrees.{modifies_is_spellable}
use Rattle.text_writer.proofs.spellable.states_are_spellable.Given as goal

abbrev pub invariant-loop-modifies : goal.invariant-loop-modifies
invariant-loop-modifies l = list_all modifies_is_spellable (map modifies_view (drop l.modifies-index l.states)) ≡ list_all modifies_is_spellable (map modifies_view l.states)
