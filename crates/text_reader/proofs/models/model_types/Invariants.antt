-- Those so far, and those that follow, are what all forms are.
use Rattle.std.proofs.Common.{map}
use Rattle.text_reader.specs.SpecViews.{model_type_view}
use Rattle.text_reader.specs.SpecGrammar.{model_type_of}
use Rattle.text_reader.proofs.ReadOn.{IsReadOn}
use Rattle.text_reader.proofs.models.model_types.Given as goal

abbrev pub invariant-loop-form : goal.invariant-loop-form
invariant-loop-form l = IsReadOn model_type_of l.forms l.form-index (map model_type_view l.types.items)
