use Rattle.std.proofs.Common.{◌∙◌, arith}
use Rattle.std.specs.Prelude.{string_bytes}
use Rattle.text_reader.specs.SpecViews.{modifies_view}
use Rattle.text_writer.specs.SpecForms.{modifies_form}
use Rattle.text_writer.proofs.SpecTexts.{next_told}
use Rattle.text_writer.proofs.spec_terms.push_states.Goals as goal

pub loop-modifies-preserved : goal.loop-modifies-preserved
loop-modifies-preserved c =
    next_told modifies_form modifies_view c.args.states.now c.loop-modifies.modifies-index c.modifies-item.result (string_bytes c.loop-modifies.out) (string_bytes c.push_str.new.self)
    (string_bytes c.push_modifies.new.out) (omega arith) c.modifies-item.is c.in_ok-push_str.ensures.bytes c.in_ok-push_modifies.ensures
    ∙ c.loop-modifies.invariant
