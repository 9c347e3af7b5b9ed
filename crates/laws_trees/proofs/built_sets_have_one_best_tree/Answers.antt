use Rattle.laws_trees.proofs.OnlyTrees.{built_sets_have_one_best_tree_lem}
use Rattle.laws_trees.proofs.built_sets_have_one_best_tree.Goals as goal

pub returns : goal.returns
returns c = built_sets_have_one_best_tree_lem
