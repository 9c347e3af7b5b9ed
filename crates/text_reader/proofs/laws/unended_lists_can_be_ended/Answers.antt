use Rattle.text_reader.proofs.Endings.{lists_can_be_ended}
use Rattle.text_reader.proofs.laws.unended_lists_can_be_ended.Goals as goal

pub returns : goal.returns
returns c = lists_can_be_ended
