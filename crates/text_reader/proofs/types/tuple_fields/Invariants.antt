-- The fields so far have types that, with those that follow, are what all forms are, and have the numbers of their places.
use Rattle.std.proofs.Common.{All, map}
use Rattle.core_syntax.specs.SyntaxViews.{tuple_field_view}
use Rattle.text_reader.specs.Grammar.{name_of}
use Rattle.text_reader.specs.Within.{TupleFieldIsWithin}
use Rattle.text_reader.proofs.ReadOn.{IsReadOn}
use Rattle.text_reader.proofs.TypeReading.{AreNumbered, type_of}
use Rattle.text_reader.proofs.types.tuple_fields.Given as goal

abbrev pub invariant-loop-form : goal.invariant-loop-form
invariant-loop-form l =
    All (λ f. TupleFieldIsWithin l.at.file l.at.len (tuple_field_view f)) l.fields.items
    × IsReadOn name_of l.forms l.form-index (map type_of l.fields.items)
    × AreNumbered l.fields.items
