use Rattle.laws_trees.proofs.OneAnswer.{lowering_gives_one_lem}
use Rattle.laws_trees.proofs.lowering_gives_one.Goals as goal

pub returns : goal.returns
returns c = lowering_gives_one_lem
