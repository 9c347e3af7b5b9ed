use Rattle.std.specs.Prelude.{string_bytes, map}
use Rattle.std.proofs.Common.{ap}
use Rattle.text_reader.specs.SpecViews.{modifies_view, spec_view}
use Rattle.text_writer.proofs.Chains.{when}
use Rattle.text_writer.proofs.SpecTexts.{parts_told}
use Rattle.text_writer.proofs.spec_terms.push_parts.Goals as goal

pub returns : goal.returns
returns c =
    when c.push_states.result
    (parts_told (spec_view c.args.spec.now) (map modifies_view c.deref.result.now) (string_bytes c.args.out.now) (string_bytes c.push_part.new.out) (string_bytes c.push_part-2.new.out)
    (string_bytes c.push_part-3.new.out) (string_bytes c.push_states.new.out) (ap (map modifies_view) c.deref.ensures.value)
    c.in_ok-push_part.ensures c.in_ok-push_part-2.ensures c.in_ok-push_part-3.ensures)
    c.push_states.ensures
