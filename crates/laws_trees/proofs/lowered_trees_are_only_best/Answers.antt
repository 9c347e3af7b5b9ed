use Rattle.laws_trees.proofs.OnlyTrees.{lowered_trees_are_only_best_lem}
use Rattle.laws_trees.proofs.lowered_trees_are_only_best.Goals as goal

pub returns : goal.returns
returns c = lowered_trees_are_only_best_lem
