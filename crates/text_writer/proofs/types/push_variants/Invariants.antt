use Rattle.std.proofs.Common.{◌≡◌, ◌++◌, map, drop, string_bytes}
use Rattle.core_syntax.specs.SyntaxViews.{variant_view}
use Rattle.text_writer.specs.Forms.{variant_forms}
use Rattle.text_writer.specs.Texts.{spaced}
use Rattle.text_writer.proofs.types.push_variants.Given as goal

abbrev pub invariant-loop-variant : goal.invariant-loop-variant
invariant-loop-variant l =
    string_bytes l.out ++ spaced (variant_forms (map variant_view (drop l.variant-index l.variants))) ≡ string_bytes l.fn.out ++ spaced (variant_forms (map variant_view l.variants))
