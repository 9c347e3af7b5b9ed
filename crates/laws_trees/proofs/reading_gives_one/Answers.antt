use Rattle.laws_trees.proofs.OneAnswer.{reading_gives_one_lem}
use Rattle.laws_trees.proofs.reading_gives_one.Goals as goal

pub returns : goal.returns
returns c = reading_gives_one_lem
