use Rattle.laws_trees.proofs.SameTrees.{best_trees_are_of_what_is_shown_lem}
use Rattle.laws_trees.proofs.best_trees_are_of_what_is_shown.Goals as goal

pub returns : goal.returns
returns c = best_trees_are_of_what_is_shown_lem
