-- The definitions so far, and those that follow, are what all forms are.
use Rattle.std.proofs.Common.{All}
use Rattle.core_syntax.specs.SyntaxViews.{definition_view, definition_views}
use Rattle.text_reader.specs.Definitions.{definition_of}
use Rattle.text_reader.specs.Within.{DefinitionIsWithin}
use Rattle.text_reader.proofs.ReadOn.{IsReadOn}
use Rattle.text_reader.proofs.definitions.definitions.Given as goal

abbrev pub invariant-loop-form : goal.invariant-loop-form
invariant-loop-form l =
    All (λ d. DefinitionIsWithin l.at.file l.at.len (definition_view d)) l.defs.items
    × IsReadOn definition_of l.forms l.form-index (definition_views l.defs.items)
