use Rattle.std.proofs.Common.{◌≡◌, ◌++◌, map, drop, string_bytes}
use Rattle.text_writer.specs.Texts.{spaced}
use Rattle.text_writer.specs.SpecForms.{forms_by, signature_form}
use Rattle.text_reader.specs.SpecViews.{signature_view}
use Rattle.text_writer.proofs.signatures.push_signatures.Given as goal

abbrev pub invariant-loop-signature : goal.invariant-loop-signature
invariant-loop-signature l =
    string_bytes l.out ++ spaced (forms_by signature_form (map signature_view (drop l.signature-index l.signatures))) ≡ string_bytes l.fn.out ++ spaced (forms_by signature_form (map signature_view l.signatures))
