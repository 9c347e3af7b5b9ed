use Rattle.text_writer.proofs.Turns.{list_ended}
use Rattle.text_writer.proofs.lists.Lists.end.Goals as goal

pub returns : goal.returns
returns c = list_ended _ _ _ c.args.self.now.«open».ok.0 c.pop.ensures.rest
