use Rattle.text_documents.proofs.ChangeLemmas.{edits_one}
use Rattle.text_documents.proofs.laws.changes_have_one_outcome.Goals as goal

pub returns : goal.returns
returns c = edits_one
