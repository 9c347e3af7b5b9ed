-- Those so far, and those that follow, are what all forms are.
use Rattle.std.proofs.Common.{map}
use Rattle.text_reader.specs.SpecViews.{variant_value_view}
use Rattle.text_reader.specs.SpecGrammar.{variant_value_of}
use Rattle.text_reader.proofs.ReadOn.{IsReadOn}
use Rattle.text_reader.proofs.models.variant_values.Given as goal

abbrev pub invariant-loop-form : goal.invariant-loop-form
invariant-loop-form l = IsReadOn variant_value_of l.forms l.form-index (map variant_value_view l.values.items)
