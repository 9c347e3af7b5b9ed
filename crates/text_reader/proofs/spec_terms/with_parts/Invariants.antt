-- What the forms that follow add to the spec so far is what all forms add.
use Rattle.std.proofs.Common.{◌≡◌, drop}
use Rattle.text_reader.specs.FormViews.{all_view}
use Rattle.text_reader.specs.SpecViews.{spec_view}
use Rattle.text_reader.specs.TermSpecGrammar.{with_parts_of}
use Rattle.text_reader.proofs.spec_terms.with_parts.Given as goal

abbrev pub invariant-loop-form : goal.invariant-loop-form
invariant-loop-form l = with_parts_of (spec_view l.fn.begun) (all_view l.forms) ≡ with_parts_of (spec_view l.spec) (all_view (drop l.form-index l.forms))
