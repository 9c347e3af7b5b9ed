use Rattle.std.proofs.Common.{◌≡◌, ◌++◌, map, drop, string_bytes}
use Rattle.text_writer.specs.Texts.{spaced}
use Rattle.text_writer.specs.SpecForms.{forms_by, modifies_form}
use Rattle.text_reader.specs.SpecViews.{modifies_view}
use Rattle.text_writer.proofs.spec_terms.push_states.Given as goal

abbrev pub invariant-loop-modifies : goal.invariant-loop-modifies
invariant-loop-modifies l =
    string_bytes l.out ++ spaced (forms_by modifies_form (map modifies_view (drop l.modifies-index l.states))) ≡ string_bytes l.fn.out ++ spaced (forms_by modifies_form (map modifies_view l.states))
