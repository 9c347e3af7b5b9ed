use Rattle.text_documents.proofs.EditLemmas.{edit_one}
use Rattle.text_documents.proofs.laws.edits_have_one_outcome.Goals as goal

pub returns : goal.returns
returns c = edit_one
