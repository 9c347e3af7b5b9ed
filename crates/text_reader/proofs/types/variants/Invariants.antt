-- The variants so far, and those that follow, are what all forms are.
use Rattle.std.proofs.Common.{All, map}
use Rattle.core_syntax.specs.SyntaxViews.{variant_view}
use Rattle.text_reader.specs.TypeGrammar.{variant_of}
use Rattle.text_reader.specs.Within.{VariantIsWithin}
use Rattle.text_reader.proofs.ReadOn.{IsReadOn}
use Rattle.text_reader.proofs.types.variants.Given as goal

abbrev pub invariant-loop-form : goal.invariant-loop-form
invariant-loop-form l =
    All (λ v. VariantIsWithin l.at.file l.at.len (variant_view v)) l.variants.items
    × IsReadOn variant_of l.forms l.form-index (map variant_view l.variants.items)
