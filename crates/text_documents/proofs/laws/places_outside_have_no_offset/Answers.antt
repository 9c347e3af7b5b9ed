use Rattle.text_documents.proofs.OffsetLemmas.{outside}
use Rattle.text_documents.proofs.laws.places_outside_have_no_offset.Goals as goal

pub returns : goal.returns
returns c = outside
