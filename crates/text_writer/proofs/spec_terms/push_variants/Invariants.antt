use Rattle.std.proofs.Common.{◌≡◌, ◌++◌, map, drop, string_bytes}
use Rattle.text_writer.specs.Texts.{spaced}
use Rattle.text_writer.specs.SpecForms.{forms_by, variant_value_form}
use Rattle.text_reader.specs.SpecViews.{variant_value_view}
use Rattle.text_writer.proofs.spec_terms.push_variants.Given as goal

abbrev pub invariant-loop-value : goal.invariant-loop-value
invariant-loop-value l =
    string_bytes l.out ++ spaced (forms_by variant_value_form (map variant_value_view (drop l.value-index l.values))) ≡ string_bytes l.fn.out ++ spaced (forms_by variant_value_form (map variant_value_view l.values))
