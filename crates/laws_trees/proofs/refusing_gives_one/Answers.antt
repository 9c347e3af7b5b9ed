use Rattle.laws_trees.proofs.OneAnswer.{refusing_gives_one_lem}
use Rattle.laws_trees.proofs.refusing_gives_one.Goals as goal

pub returns : goal.returns
returns c = refusing_gives_one_lem
