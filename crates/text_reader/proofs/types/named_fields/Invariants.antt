-- The fields so far, and those that follow, are what all forms are.
use Rattle.std.proofs.Common.{All, map}
use Rattle.core_syntax.specs.SyntaxViews.{field_view}
use Rattle.text_reader.specs.TypeGrammar.{named_field_of}
use Rattle.text_reader.specs.Within.{FieldIsWithin}
use Rattle.text_reader.proofs.ReadOn.{IsReadOn}
use Rattle.text_reader.proofs.types.named_fields.Given as goal

abbrev pub invariant-loop-form : goal.invariant-loop-form
invariant-loop-form l =
    All (λ f. FieldIsWithin l.at.file l.at.len (field_view f)) l.fields.items
    × IsReadOn named_field_of l.forms l.form-index (map field_view l.fields.items)
