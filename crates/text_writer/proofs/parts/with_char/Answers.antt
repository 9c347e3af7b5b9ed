use Rattle.text_writer.proofs.Texts.{pushed_text}
use Rattle.text_writer.proofs.parts.with_char.Goals as goal

pub returns : goal.returns
returns c = pushed_text c.args.text c.push.new.self c.args.c c.in_ok-push.ensures.bytes
