use Rattle.text_writer.proofs.ItemsReadBack.{trees_say}
use Rattle.text_writer.proofs.spec_laws.texts_read_back.Goals as goal

pub returns : goal.returns
returns c = trees_say
