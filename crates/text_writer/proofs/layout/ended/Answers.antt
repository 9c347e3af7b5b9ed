use Rattle.text_writer.proofs.Texts.{pushed_text}
use Rattle.text_writer.proofs.layout.ended.Goals as goal

pub returns : goal.returns
returns c = rw c.if-is_empty.false (pushed_text c.args.text c.push.new.self 10 c.in_ok-push.ensures.bytes)
