use Rattle.text_reader.proofs.Recovered.{emptied}
use Rattle.text_reader.proofs.chunks.chunk_at.Goals as goal

pub returns-clause-part : goal.returns-clause-part
returns-clause-part c = emptied c.args.offset c.new.result c.new.ensures.bytes
