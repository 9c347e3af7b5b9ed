use Rattle.text_reader.proofs.Apart.{read_apart, ended_apart}
use Rattle.text_reader.proofs.laws.chunks_are_read_apart.Goals as goal

pub returns-clause-lines : goal.returns-clause-lines
returns-clause-lines c = read_apart

pub returns-clause-lists : goal.returns-clause-lists
returns-clause-lists c = ended_apart
