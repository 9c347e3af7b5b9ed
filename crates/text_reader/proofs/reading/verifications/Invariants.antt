-- What was said so far, with what the forms that follow say, is what all forms say.
use Rattle.std.proofs.Common.{map}
use Rattle.text_reader.specs.SpecViews.{numbered_view}
use Rattle.text_reader.proofs.Numbered.{AreSaid}
use Rattle.text_reader.proofs.reading.verifications.Given as goal

abbrev pub invariant-loop-i : goal.invariant-loop-i
invariant-loop-i l = AreSaid l.forms l.i (map numbered_view l.found.items)
