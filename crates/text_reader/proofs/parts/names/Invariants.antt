-- The names so far, and those that follow, are what all forms are.
use Rattle.std.proofs.Common.{map}
use Rattle.core_syntax.specs.SyntaxViews.{name_view}
use Rattle.text_reader.specs.Forms.{IdentsAreWithin}
use Rattle.text_reader.specs.Grammar.{name_of}
use Rattle.text_reader.proofs.ReadOn.{IsReadOn}
use Rattle.text_reader.proofs.parts.names.Given as goal

abbrev pub invariant-loop-form : goal.invariant-loop-form
invariant-loop-form l =
    IdentsAreWithin l.at.file l.at.len l.names.items × IsReadOn name_of l.forms l.form-index (map name_view l.names.items)
