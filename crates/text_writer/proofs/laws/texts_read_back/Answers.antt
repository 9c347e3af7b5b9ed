use Rattle.text_writer.proofs.ReadBack.{reads_back}
use Rattle.text_writer.proofs.laws.texts_read_back.Goals as goal

pub returns : goal.returns
returns c = reads_back
