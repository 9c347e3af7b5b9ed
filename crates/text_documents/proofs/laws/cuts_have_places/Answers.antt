use Rattle.text_documents.proofs.PlaceLemmas.{each_cut}
use Rattle.text_documents.proofs.laws.cuts_have_places.Goals as goal

pub returns : goal.returns
returns c = each_cut
