use Rattle.std.proofs.Common.{◌≡◌, map, drop}
use Rattle.text_reader.specs.SpecViews.{verification_view}
use Rattle.text_writer.specs.SpellableTrees.{first_unspelled}
use Rattle.text_writer.proofs.spellable.first_unspelled.Given as goal

abbrev pub invariant-loop-form : goal.invariant-loop-form
invariant-loop-form l = first_unspelled (map verification_view (drop l.form-index l.forms)) ≡ first_unspelled (map verification_view l.forms)
