use Rattle.text_writer.proofs.Texts.{pushed_text, one_more}
use Rattle.text_writer.proofs.layout.push_times.Goals as goal

pub loop-preserved : goal.loop-preserved
loop-preserved c = one_more _ _ _ c.loop.counter c.args.c (pushed_text c.loop.text c.push.new.self c.args.c c.in_ok-push.ensures.bytes) c.loop.invariant
