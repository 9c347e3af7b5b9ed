use Rattle.laws_trees.proofs.OneAnswer.{serializing_gives_one_lem}
use Rattle.laws_trees.proofs.serializing_gives_one.Goals as goal

pub returns : goal.returns
returns c = serializing_gives_one_lem
