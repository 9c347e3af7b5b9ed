use Rattle.text_writer.proofs.ItemsReadBack.{items_read_back}
use Rattle.text_writer.proofs.spec_laws.items_read_back.Goals as goal

pub returns : goal.returns
returns c = items_read_back
