use Rattle.text_documents.proofs.UnitLemmas.{units-length}
use Rattle.text_documents.proofs.laws.units_are_of_utf16.Goals as goal

pub returns : goal.returns
returns c = units-length
