use Rattle.laws_trees.proofs.BuiltMatches.{built_sets_match_by_demands_lem}
use Rattle.laws_trees.proofs.built_sets_match_by_demands.Goals as goal

pub returns : goal.returns
returns c = built_sets_match_by_demands_lem c.built_demands_are_whole.ensures
