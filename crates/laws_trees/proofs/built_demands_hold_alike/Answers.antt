use Rattle.laws_trees.proofs.BuiltMatches.{built_demands_hold_alike_lem}
use Rattle.laws_trees.proofs.built_demands_hold_alike.Goals as goal

pub returns : goal.returns
returns c = built_demands_hold_alike_lem c.built_demands_are_whole.ensures
