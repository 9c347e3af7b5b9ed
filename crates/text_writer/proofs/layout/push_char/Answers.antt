use Rattle.text_writer.proofs.Texts.{pushed_text}
use Rattle.text_writer.proofs.layout.push_char.Goals as goal

pub returns-clause-text : goal.returns-clause-text
returns-clause-text c = pushed_text c.args.text.now c.push.new.self c.args.c c.in_ok-push.ensures.bytes
