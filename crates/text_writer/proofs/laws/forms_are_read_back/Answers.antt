use Rattle.text_writer.proofs.FormsRead.{definition_read}
use Rattle.text_writer.proofs.laws.forms_are_read_back.Goals as goal

pub returns : goal.returns
returns c = definition_read
