use Rattle.text_writer.proofs.Texts.{empty_text}
use Rattle.text_writer.proofs.parts.empty.Goals as goal

pub returns : goal.returns
returns c = empty_text c.new.result c.new.ensures.bytes
