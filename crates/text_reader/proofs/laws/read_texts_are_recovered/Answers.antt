use Rattle.text_reader.proofs.WholeChunks.{fine_if_read, read_if_fine}
use Rattle.text_reader.proofs.laws.read_texts_are_recovered.Goals as goal

pub returns-clause-read : goal.returns-clause-read
returns-clause-read c = fine_if_read

pub returns-clause-fine : goal.returns-clause-fine
returns-clause-fine c = read_if_fine
