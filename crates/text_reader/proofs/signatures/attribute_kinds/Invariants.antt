-- Those so far, and those that follow, are what all forms are.
use Rattle.std.proofs.Common.{map}
use Rattle.text_reader.specs.SpecViews.{attr_kind_view}
use Rattle.text_reader.specs.SpecGrammar.{attr_kind_of}
use Rattle.text_reader.proofs.ReadOn.{IsReadOn}
use Rattle.text_reader.proofs.signatures.attribute_kinds.Given as goal

abbrev pub invariant-loop-form : goal.invariant-loop-form
invariant-loop-form l = IsReadOn attr_kind_of l.forms l.form-index (map attr_kind_view l.kinds.items)
