use Rattle.laws_trees.proofs.OneTree.{best_trees_are_one_lem}
use Rattle.laws_trees.proofs.best_trees_are_one.Goals as goal

pub returns : goal.returns
returns c = best_trees_are_one_lem
