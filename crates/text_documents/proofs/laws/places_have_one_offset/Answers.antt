use Rattle.text_documents.proofs.OffsetLemmas.{offset_one}
use Rattle.text_documents.proofs.laws.places_have_one_offset.Goals as goal

pub returns : goal.returns
returns c = offset_one
