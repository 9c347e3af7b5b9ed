use Rattle.text_reader.proofs.Endings.{comments_can_be_ended}
use Rattle.text_reader.proofs.laws.unended_comments_can_be_ended.Goals as goal

pub returns : goal.returns
returns c = comments_can_be_ended
