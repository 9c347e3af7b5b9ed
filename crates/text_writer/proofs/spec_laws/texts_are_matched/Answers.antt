use Rattle.text_writer.proofs.Matched.{text_matched}
use Rattle.text_writer.proofs.spec_laws.texts_are_matched.Goals as goal

pub returns : goal.returns
returns c = text_matched
