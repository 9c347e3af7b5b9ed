use Rattle.std.proofs.Common.{◌≡◌, map, drop}
use Rattle.std.specs.List.{list_all}
use Rattle.text_reader.specs.SpecViews.{signature_view}
use Rattle.text_writer.specs.SpellableTrees.{signature_is_spellable}
use Rattle.text_writer.proofs.spellable.signatures_are_spellable.Given as goal

abbrev pub invariant-loop-signature : goal.invariant-loop-signature
invariant-loop-signature l = list_all signature_is_spellable (map signature_view (drop l.signature-index l.signatures)) ≡ list_all signature_is_spellable (map signature_view l.signatures)
