use Rattle.std.proofs.Common.{◌≡◌, ◌++◌, map, drop, string_bytes}
use Rattle.text_writer.specs.Texts.{spaced}
use Rattle.text_writer.specs.SpecForms.{forms_by, attr_kind_form}
use Rattle.text_reader.specs.SpecViews.{attr_kind_view}
use Rattle.text_writer.proofs.signatures.push_kinds.Given as goal

abbrev pub invariant-loop-kind : goal.invariant-loop-kind
invariant-loop-kind l =
    string_bytes l.out ++ spaced (forms_by attr_kind_form (map attr_kind_view (drop l.kind-index l.kinds))) ≡ string_bytes l.fn.out ++ spaced (forms_by attr_kind_form (map attr_kind_view l.kinds))
