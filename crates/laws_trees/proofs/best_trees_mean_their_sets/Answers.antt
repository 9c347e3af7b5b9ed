use Rattle.laws_trees.proofs.TreeMeanings.{best_trees_mean_their_sets_lem}
use Rattle.laws_trees.proofs.best_trees_mean_their_sets.Goals as goal

pub returns : goal.returns
returns c = best_trees_mean_their_sets_lem c.best_trees_of_built_sets_are_sound.ensures
