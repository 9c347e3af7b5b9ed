use Rattle.text_writer.proofs.ContentsRead.{text_follows}
use Rattle.text_writer.proofs.contents.texts_follow.Goals as goal

pub returns : goal.returns
returns c = text_follows
