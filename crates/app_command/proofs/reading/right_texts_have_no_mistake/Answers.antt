use Rattle.app_command.proofs.TextsRead.{no_mistakes}
use Rattle.app_command.proofs.reading.right_texts_have_no_mistake.Goals as goal

pub returns : goal.returns
returns c = λ has_none texts defs are. no_mistakes c.spelled_texts_are_read.ensures.read has_none 0 texts defs are
