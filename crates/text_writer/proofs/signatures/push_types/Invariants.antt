use Rattle.std.proofs.Common.{◌≡◌, ◌++◌, map, drop, string_bytes}
use Rattle.text_writer.specs.Texts.{spaced}
use Rattle.text_writer.specs.SpecForms.{forms_by, model_type_form}
use Rattle.text_reader.specs.SpecViews.{model_type_view}
use Rattle.text_writer.proofs.signatures.push_types.Given as goal

abbrev pub invariant-loop-ty : goal.invariant-loop-ty
invariant-loop-ty l =
    string_bytes l.out ++ spaced (forms_by model_type_form (map model_type_view (drop l.ty-index l.types))) ≡ string_bytes l.fn.out ++ spaced (forms_by model_type_form (map model_type_view l.types))
