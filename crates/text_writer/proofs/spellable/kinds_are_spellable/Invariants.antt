use Rattle.std.proofs.Common.{◌≡◌, map, drop}
use Rattle.std.specs.List.{list_all}
use Rattle.text_reader.specs.SpecViews.{attr_kind_view}
use Rattle.text_writer.specs.SpellableTrees.{attr_kind_is_spellable}
use Rattle.text_writer.proofs.spellable.kinds_are_spellable.Given as goal

abbrev pub invariant-loop-kind : goal.invariant-loop-kind
invariant-loop-kind l = list_all attr_kind_is_spellable (map attr_kind_view (drop l.kind-index l.kinds)) ≡ list_all attr_kind_is_spellable (map attr_kind_view l.kinds)
