use Rattle.text_writer.proofs.Turns.{innermost}
use Rattle.text_writer.proofs.lists.Lists.begin.Goals as goal

pub returns : goal.returns
returns c = innermost _ _ _ c.in_ok-push.ensures.items
