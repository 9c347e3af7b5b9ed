use Rattle.text_documents.proofs.PlaceLemmas.{place_one}
use Rattle.text_documents.proofs.laws.offsets_have_one_place.Goals as goal

pub returns : goal.returns
returns c = place_one
