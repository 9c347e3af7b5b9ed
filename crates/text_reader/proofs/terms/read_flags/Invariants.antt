-- What the forms that follow add to the flags so far is what all forms say.
use Rattle.std.proofs.Common.{◌≡◌, drop}
use Rattle.text_reader.specs.FormViews.{all_view}
use Rattle.text_reader.specs.FlagViews.{flags_view}
use Rattle.text_reader.specs.TermGrammar.{no_flags, flags_of}
use Rattle.text_reader.proofs.terms.read_flags.Given as goal

abbrev pub invariant-loop-form : goal.invariant-loop-form
invariant-loop-form l = flags_of no_flags (all_view l.forms) ≡ flags_of (flags_view l.flags) (all_view (drop l.form-index l.forms))
