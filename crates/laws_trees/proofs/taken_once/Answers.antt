use Rattle.laws_trees.proofs.taking.OneOutcome.{taken_once_lem}
use Rattle.laws_trees.proofs.taken_once.Goals as goal

pub returns : goal.returns
returns c = taken_once_lem
