-- The expressions so far, and those that follow, are what all forms are.
use Rattle.text_reader.specs.FormViews.{all_view}
use Rattle.text_reader.specs.SpecGrammar.{spec_exprs_of}
use Rattle.text_reader.proofs.ReadSpecs.{SpecsAreRead}
use Rattle.text_reader.proofs.spec_expressions.expressions.Given as goal

abbrev pub invariant-loop-form : goal.invariant-loop-form
invariant-loop-form l = SpecsAreRead (spec_exprs_of (all_view l.forms)) l.forms l.form-index l.expressions.items
