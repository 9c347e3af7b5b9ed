use Rattle.laws_trees.proofs.SameSets.{built_sets_show_same_lem}
use Rattle.laws_trees.proofs.built_sets_show_same.Goals as goal

pub returns : goal.returns
returns c = built_sets_show_same_lem
