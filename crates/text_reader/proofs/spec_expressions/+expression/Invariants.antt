-- The expressions so far, and those that follow, are what all arguments are; so are the pairs of a switch.
use Rattle.std.proofs.Common.{drop}
use Rattle.text_reader.specs.FormViews.{all_view}
use Rattle.text_reader.specs.SpecGrammar.{arguments_of, pairs_of}
use Rattle.text_reader.proofs.ReadSpecs.{SpecsAreRead, PairsAreRead}
use Rattle.text_reader.proofs.spec_expressions.+expression.Given as goal

abbrev pub invariant-arguments-loop-i : goal.invariant-arguments-loop-i
invariant-arguments-loop-i l = SpecsAreRead (arguments_of (all_view l.parts)) l.parts l.i l.arguments.items

abbrev pub invariant-pairs-loop-i : goal.invariant-pairs-loop-i
invariant-pairs-loop-i l = PairsAreRead (pairs_of (all_view (drop l.from l.parts))) l.parts l.i l.pairs.items
