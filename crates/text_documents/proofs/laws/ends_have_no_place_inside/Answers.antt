use Rattle.text_documents.proofs.PlaceLemmas.{end_no_place}
use Rattle.text_documents.proofs.laws.ends_have_no_place_inside.Goals as goal

pub returns : goal.returns
returns c = end_no_place
