use Rattle.text_reader.proofs.Recovered.{pushed}
use Rattle.text_reader.proofs.chunks.longer.Goals as goal

pub returns-clause-part : goal.returns-clause-part
returns-clause-part c = pushed c.args.chunk.offset c.args.chunk.text c.push.new.self c.args.c c.in_ok-push.ensures.bytes
