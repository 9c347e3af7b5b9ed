use Rattle.text_documents.proofs.OffsetLemmas.{past_not_at}
use Rattle.text_documents.proofs.laws.places_in_a_line_are_not_past_it.Goals as goal

pub returns : goal.returns
returns c = past_not_at
