-- Those so far, and those that follow, are what all forms are.
use Rattle.std.proofs.Common.{map}
use Rattle.text_reader.specs.SpecViews.{signature_view}
use Rattle.text_reader.specs.SpecGrammar.{signature_of}
use Rattle.text_reader.proofs.ReadOn.{IsReadOn}
use Rattle.text_reader.proofs.signatures.signatures.Given as goal

abbrev pub invariant-loop-form : goal.invariant-loop-form
invariant-loop-form l = IsReadOn signature_of l.forms l.form-index (map signature_view l.signatures.items)
